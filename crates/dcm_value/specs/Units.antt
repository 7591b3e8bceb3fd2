-- Units as they are shown, given with the highest byte first.
use Rattle.std.specs.Prelude.{ℕ, List, ◌∷◌, length, take, drop, reverse, flat_map, decimal}
use Rattle.dcm_base.specs.declared.vr.Vr.{Vr}
use Rattle.dcm_base.specs.declared.syntax.Syntax.{Syntax}
use Rattle.dcm_base.specs.declared.syntax.Syntax.TheVariants.{Implicit as implicit_in, Little as little_in}
use Rattle.dcm_base.specs.declared.syntax.Syntax.TheVariants.{Big as big_in}
use Rattle.dcm_base.specs.Tables.Representation.{unit}
use Rattle.dcm_base.specs.Tree.Value.{number_of, turned, order, units}
use Rattle.dcm_base.specs.Dump.ValueText.{Shape, unsigned, signed, tags, hex_byte, signed_text, tag_text, shape}
use Rattle.dcm_base.specs.Dump.ValueText.{shown_unit, unit_text}
use Rattle.dcm_value.specs.declared.units.Kind.{Kind}
use Rattle.dcm_value.specs.declared.units.Kind.TheVariants.{Unsigned, Signed, Tags, Hexadecimal}

-- the kind of a value that is shown in units
abbrev pub kind_of : Shape → Kind
kind_of unsigned = Unsigned
kind_of signed = Signed
kind_of tags = Tags
kind_of _ = Hexadecimal

abbrev pub high_text : Kind → List ℕ → List ℕ
high_text Unsigned u = decimal (number_of (reverse u))
high_text Signed u = signed_text (length u) (number_of (reverse u))
high_text Tags u = tag_text (number_of (reverse (take 2 u))) (number_of (reverse (drop 2 u)))
high_text Hexadecimal u = flat_map hex_byte u

-- each unit turned so that its highest byte, or that of each half of a tag, is first
abbrev pub high : Syntax → Vr → List ℕ → List ℕ
high (big_in d) vr v = v
high (implicit_in d) vr v = turned (unit vr) v
high (little_in d) vr v = turned (unit vr) v

-- a unit in the order of a syntax
abbrev pub one_text : Vr → Syntax → List ℕ → List ℕ
one_text vr syntax u = unit_text (shape vr) (order syntax vr u)

-- units, each after a backslash
abbrev pub separated : (List ℕ → List ℕ) → List (List ℕ) → List ℕ
separated t us = flat_map (λ u. 92 ∷ t u) us

-- the whole units of a value, each after a backslash
abbrev pub separated_units : Vr → Syntax → List ℕ → List ℕ
separated_units vr syntax v = separated (one_text vr syntax) (units (shown_unit vr) v)
