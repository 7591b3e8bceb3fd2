use Rattle.std.proofs.Common.{◌≡◌, ◌≢◌, ◌<◌, ℕ, ◌^◌, ◌==◌, ◌||◌, max, Bool, true, false, arith, ap, sym, refl, ◌∙◌}
use Rattle.std.specs.Int.{bit_at}
use Rattle.std.specs.Int.Bits.{bit_or}
use Rattle.std.proofs.lemmas.Bool.Decides.{nat_tests}
use Rattle.std.proofs.lemmas.Nat.Bits.{bit_at_or, bit_at-lt, bit_at-pow_same, bit_at-pow_other}
use Rattle.dcm_lemmas.proofs.Numbers.{equal_numbers}
use Rattle.dcm_text.specs.Sets.{place}
use Rattle.dcm_text.proofs.laws.each_set_is_kept.Goals as goal

other_place : (n k : ℕ) → (n == k) ≡ false → k ≢ n
other_place n k e = λ same. absurd (grind (arith, nat_tests))

with_one : (x y : ℕ) → x < 2 → y ≡ 1 → (max x y == 1) ≡ true
with_one x y l e = grind (arith, nat_tests)

with_none : (x y : ℕ) → y ≡ 0 → (max x y == 1) ≡ (x == 1)
with_none x y e = ap (λ (z : ℕ). z == 1) (omega (arith, e))

-- the bits of a number and one more
one_more : (n p k : ℕ) → (bit_at (bit_or n (2 ^ p)) k == 1) ≡ ((p == k) || (bit_at n k == 1))
one_more n p k = ap (λ (z : ℕ). z == 1) (bit_at_or n (2 ^ p) k) ∙ by_test (p == k) refl
  where
    by_test : (t : Bool) → (p == k) ≡ t → (max (bit_at n k) (bit_at (2 ^ p) k) == 1) ≡ (t || (bit_at n k == 1))
    by_test true e = with_one (bit_at n k) (bit_at (2 ^ p) k) (bit_at-lt n k) (sym (ap (λ (j : ℕ). bit_at (2 ^ p) j) (equal_numbers p k e)) ∙ bit_at-pow_same p)
    by_test false e = with_none (bit_at n k) (bit_at (2 ^ p) k) (bit_at-pow_other p k (other_place p k e))

pub returns : goal.returns
returns c = λ flags named other. one_more flags (place named) (place other)
