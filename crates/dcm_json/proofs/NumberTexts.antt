-- Texts of numbers.
use Rattle.std.proofs.Common.{◌≡◌, arith, refl, true, ℕ, List, [], ◌∷◌, IsUtf8}
use Rattle.std.specs.Prelude.{nat_lt}
use Rattle.std.specs.List.{list_all}
use Rattle.std.proofs.lemmas.Bool.Decides.{nat_tests}
use Rattle.dcm_lemmas.proofs.Truth.{and_both, and_first, and_second}
use Rattle.json.proofs.Printed.Utf8.{are_ascii, IsUtf8-are_ascii}
use Rattle.dcm_json.specs.NumberText.{is_of_number}

low : (b : ℕ) → is_of_number b ≡ true → nat_lt b 128 ≡ true
low b e = grind (arith, nat_tests)

all_low : (text : List ℕ) → list_all is_of_number text ≡ true → are_ascii text ≡ true
all_low [] e = refl
all_low (b ∷ rest) e =
    and_both (nat_lt b 128) (are_ascii rest) (low b (and_first (is_of_number b) (list_all is_of_number rest) e))
    (all_low rest (and_second (is_of_number b) (list_all is_of_number rest) e))

-- characters of numbers are UTF-8
pub numbers_are_utf8 : (text : List ℕ) → list_all is_of_number text ≡ true → IsUtf8 text
numbers_are_utf8 text e = IsUtf8-are_ascii text (all_low text e)
