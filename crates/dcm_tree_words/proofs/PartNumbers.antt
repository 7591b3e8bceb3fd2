-- The numbers of parts.
use Rattle.std.proofs.Common.{◌≡◌, ℕ, ◌+◌, ◌≤◌, ◌^◌, List, length, Some, Bool, true, arith, lit<}
use Rattle.std.specs.Prelude.{nat_le, ◌&&◌}
use Rattle.std.proofs.lemmas.Bool.Decides.{nat_tests}
use Rattle.std.proofs.Math.Nat.{pow-le-pow_right}
use Rattle.dcm_lemmas.proofs.Truth.{and_second}
use Rattle.dcm_base.specs.Lines.ReadValue.{number_in, decimal_number}
use Rattle.dcm_base.proofs.DumpsBack.DigitNumbers.{if_some}
use Rattle.dcm_edits.proofs.Words.IndexNumbers.{number_below}
use Rattle.dcm_tree_words.specs.Parts.{short_number}

within_four : (i : ℕ) → i ≤ 4 → 10 ^ i ≤ 10 ^ 4
within_four i h = pow-le-pow_right {n = 10} (lit< tt) {i = i} {j = 4} h

few_digits : (a : Bool) (n : ℕ) → a && nat_le n 4 ≡ true → n ≤ 4
few_digits a n p = let l = and_second a (nat_le n 4) p in grind (arith, nat_tests)

four_digits : (w : List ℕ) (n : ℕ) → length w ≤ 4 → number_in 10 0 w ≡ Some n → n ≤ 9999
four_digits w n h p =
    let below = number_below w 0 0 n (lit< tt) p in
    let most = within_four (0 + length w) (omega (arith, h)) in
    omega (arith, below, most)

pub short_below : (w : List ℕ) (n : ℕ) → short_number w ≡ Some n → n ≤ 9999
short_below w n p =
    let some = if_some (nat_le 1 (length w) && nat_le (length w) 4) (number_in 10 0 w) n p in
    four_digits w n (few_digits (nat_le 1 (length w)) (length w) some.0) some.1

-- so is one that they read as
pub four_read : (w : List ℕ) (n : ℕ) → length w ≤ 4 → decimal_number w ≡ Some n → n ≤ 9999
four_read w n h p = four_digits w n h (if_some (nat_le 1 (length w) && nat_le (length w) 20) (number_in 10 0 w) n p).1
