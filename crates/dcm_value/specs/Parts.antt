-- The bytes of one part of a text.
use Rattle.std.specs.Prelude.{ℕ, List, Option}
use Rattle.dcm_base.specs.Lines.ReadValue.{unsigned_value, signed_value, tag_value, hex_value}
use Rattle.dcm_value.specs.declared.units.Kind.{Kind}
use Rattle.dcm_value.specs.declared.units.Kind.TheVariants.{Unsigned, Signed, Tags, Hexadecimal}

abbrev pub part_value : Kind → ℕ → List ℕ → Option (List ℕ)
part_value Unsigned size text = unsigned_value size text
part_value Signed size text = signed_value size text
part_value Tags size text = tag_value text
part_value Hexadecimal size text = hex_value size text
