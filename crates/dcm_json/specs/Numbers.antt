-- Numbers and tags as JSON has them (PS3.5 6.2, PS3.18 F.2.3).
use Rattle.std.specs.Prelude.{ℕ, ◌-◌, ◌/◌, ◌%◌, ◌^◌, nat_le, Bool, true, ◌||◌, if◌then◌else◌, List, [], ◌∷◌, ◌++◌, take, drop, flat_map, map, from_bits, codes}
use Rattle.std.specs.Float.{float_is_finite}
use Rattle.ryu.specs.Plain.{word_of}
use Rattle.dcm_base.specs.declared.syntax.Syntax.{Syntax}
use Rattle.dcm_base.specs.declared.vr.Vr.{Vr}
use Rattle.dcm_base.specs.declared.vr.Vr.TheVariants.{AT, FD, FL, SV, UV}
use Rattle.dcm_base.specs.Dump.ValueText.{shape, shown_unit, unit_text, upper}
use Rattle.dcm_base.specs.Tree.Value.{number_of, order, units}
use Rattle.dcm_table.specs.Parts.{Part, Width, a_float, double, format_of, single, some_bytes}
use Rattle.json.specs.Print.{quoted}

-- readers hold numbers exactly up to here
abbrev pub MOST_EXACT : ℕ
MOST_EXACT = 9007199254740992

-- a float is a number that reads back as the float; one that is not finite is a string
abbrev pub float_part : Width → ℕ → Part
float_part w bits = if float_is_finite (from_bits (format_of w) bits) then a_float w bits
    else some_bytes (quoted (word_of (from_bits (format_of w) bits)))

-- a number of eight bytes whose highest bit tells the sign
abbrev pub is_exact_signed : ℕ → Bool
is_exact_signed n = nat_le n MOST_EXACT || nat_le (2 ^ 64 - MOST_EXACT) n

-- whether readers hold an integer exactly
abbrev pub is_exact : Vr → ℕ → Bool
is_exact SV n = is_exact_signed n
is_exact UV n = nat_le n MOST_EXACT
is_exact vr n = true

-- an integer that readers do not hold exactly is a string of its decimals
abbrev pub integer_text : Vr → List ℕ → List ℕ
integer_text vr unit = if is_exact vr (number_of unit) then unit_text (shape vr) unit
    else quoted (unit_text (shape vr) unit)

-- a tag is a string of eight capital digits, its group first
abbrev pub upper_byte : ℕ → List ℕ
upper_byte b = upper (b / 16) ∷ upper (b % 16) ∷ []

abbrev pub half_text : List ℕ → List ℕ
half_text [] = []
half_text (b ∷ []) = []
half_text (b ∷ c ∷ rest) = upper_byte c ++ upper_byte b

abbrev pub tag_digits : List ℕ → List ℕ
tag_digits unit = half_text (take 2 unit) ++ half_text (drop 2 unit)

-- a whole unit, in little endian order
abbrev pub unit_part : Vr → List ℕ → Part
unit_part FL unit = float_part single (number_of unit)
unit_part FD unit = float_part double (number_of unit)
unit_part AT unit = some_bytes (quoted (tag_digits unit))
unit_part vr unit = some_bytes (integer_text vr unit)

-- ---- all units of a value

abbrev pub next_value : Vr → List ℕ → List Part
next_value vr unit = some_bytes (codes ",") ∷ unit_part vr unit ∷ []

-- the values of an element, each a unit in little endian order; nothing without a whole unit
abbrev pub values_parts : Vr → List (List ℕ) → List Part
values_parts vr [] = []
values_parts vr (unit ∷ others) = some_bytes (codes ",\"Value\":[") ∷ unit_part vr unit
    ∷ (flat_map (next_value vr) others ++ some_bytes (codes "]") ∷ [])

-- bytes behind the last whole unit are left out
abbrev pub number_parts : Syntax → Vr → List ℕ → List Part
number_parts s vr value = values_parts vr (map (order s vr) (units (shown_unit vr) value))
