-- Lists of numbers as decimals, in either order of bytes.
use Rattle.std.specs.Prelude.{ℕ, List, Bool, true, false, length, reverse, decimal}
use Rattle.dcm_base.specs.Tree.Value.{number_of, units}
use Rattle.dcm_base.specs.Dump.ValueText.{signed_text}
use Rattle.dcm_value.specs.Units.{separated}

-- the number that bytes are, whose highest is the first where the order is big
abbrev pub number_in : Bool → List ℕ → ℕ
number_in true u = number_of (reverse u)
number_in false u = number_of u

-- a number of so many bytes
abbrev pub shown_number : Bool → ℕ → ℕ → List ℕ
shown_number true size n = signed_text size n
shown_number false size n = decimal n

-- a unit
abbrev pub number_text : Bool → Bool → List ℕ → List ℕ
number_text is_signed is_big u = shown_number is_signed (length u) (number_in is_big u)

-- units of this size, each after a backslash
abbrev pub numbers : Bool → Bool → ℕ → List ℕ → List ℕ
numbers is_signed is_big size v = separated (number_text is_signed is_big) (units size v)
