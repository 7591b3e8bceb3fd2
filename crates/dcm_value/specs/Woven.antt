-- Units in hexadecimal, in either order of bytes.
use Rattle.std.specs.Prelude.{ℕ, List, Bool, true, false, flat_map, reverse}
use Rattle.dcm_base.specs.Tree.Value.{units}
use Rattle.dcm_base.specs.Dump.ValueText.{hex_byte}
use Rattle.dcm_value.specs.Units.{separated}

-- the digits of a unit, whose highest byte is the last where it is to be turned
abbrev pub unit_digits : Bool → List ℕ → List ℕ
unit_digits true u = flat_map hex_byte (reverse u)
unit_digits false u = flat_map hex_byte u

-- units of this size, each after a backslash
abbrev pub woven : ℕ → Bool → List ℕ → List ℕ
woven size is_turned v = separated (unit_digits is_turned) (units size v)
