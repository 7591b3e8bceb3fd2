-- Values of DS and IS that JSON has as numbers (RFC 8259, section 6).
use Rattle.std.specs.Prelude.{ℕ, Bool, true, false, ◌&&◌, ◌||◌, ◌==◌, nat_le, if◌then◌else◌, List, [], ◌∷◌, length, Option, Some, None}
use Rattle.std.specs.List.{list_all}
use Rattle.json.specs.Word.{after_number}
use Rattle.dcm_json.specs.declared.shape.TextShape.{TextShape}
use Rattle.dcm_json.specs.declared.shape.TextShape.TheVariants.{Strings, OneString, Decimals, Integers, Names}

-- a character of numbers: a digit, a sign, the point, or that of an exponent
abbrev pub is_of_number : ℕ → Bool
is_of_number b = (nat_le 48 b && nat_le b 57) || (b == 45 || b == 43) || (b == 46 || (b == 101 || b == 69))

-- nothing follows a number
abbrev pub is_at_end : Option (List ℕ) → Bool
is_at_end None = false
is_at_end (Some []) = true
is_at_end (Some (b ∷ rest)) = false

-- all of a text is a number of JSON
abbrev pub is_json_number : List ℕ → Bool
is_json_number text = list_all is_of_number text && is_at_end (after_number text)

abbrev pub is_exponent : ℕ → Bool
is_exponent b = b == 101 || b == 69

abbrev pub without_sign : List ℕ → List ℕ
without_sign [] = []
without_sign (b ∷ rest) = if b == 43 || b == 45 then rest else b ∷ rest

-- the digits of an exponent
abbrev pub exponent : List ℕ → List ℕ
exponent [] = []
exponent (b ∷ rest) = if is_exponent b then without_sign rest else exponent rest

-- a digit or a minus, as an integer has
abbrev pub is_of_integer : ℕ → Bool
is_of_integer b = (nat_le 48 b && nat_le b 57) || b == 45

-- the most bytes of a number: readers round numbers of more, or refuse them
abbrev pub MOST_OF_NUMBER : ℕ
MOST_OF_NUMBER = 15

-- a value of DS that JSON has as it stands: its exponent has at most two digits
abbrev pub is_decimal : List ℕ → Bool
is_decimal text = is_json_number text && nat_le (length (exponent text)) 2

-- a value of IS that JSON has as it stands: without fraction and exponent
abbrev pub is_integer : List ℕ → Bool
is_integer text = is_json_number text && list_all is_of_integer text

abbrev pub is_of_shape : TextShape → List ℕ → Bool
is_of_shape Strings text = false
is_of_shape OneString text = false
is_of_shape Decimals text = is_decimal text
is_of_shape Integers text = is_integer text
is_of_shape Names text = false

-- whether a value is written as a number
abbrev pub is_number : TextShape → List ℕ → Bool
is_number shape text = nat_le (length text) MOST_OF_NUMBER && is_of_shape shape text
