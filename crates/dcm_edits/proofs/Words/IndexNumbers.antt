-- Numbers of at most nine digits.
use Rattle.std.proofs.Common.{◌≡◌, ◌≤◌, ◌<◌, ℕ, suc, ◌+◌, ◌*◌, ◌^◌, List, [], ◌∷◌, length, Option, Some, None, Bool, true, false, refl, subst, arith, lit<}
use Rattle.std.specs.Prelude.{if◌then◌else◌, nat_le, nat_lt, ◌&&◌}
use Rattle.std.specs.Char.{digit_value}
use Rattle.std.proofs.lemmas.Bool.Decides.{nat_tests}
use Rattle.std.proofs.lemmas.Grind.{pow_more}
use Rattle.std.proofs.Math.Nat.{pow-le-pow_right}
use Rattle.dcm_base.specs.Lines.ReadValue.{◌>>=◌, decimal_number, digit, number_in}
use Rattle.dcm_base.proofs.DumpsBack.DigitNumbers.{if_some}

within_nine : (i : ℕ) → i ≤ 9 → 10 ^ i ≤ 10 ^ 9
within_nine i h = pow-le-pow_right {n = 10} (lit< tt) {i = i} {j = 9} h

digit_below : (t : Bool) (v d : ℕ) → t ≡ nat_lt v 10 → (if t then Some v else None) ≡ Some d → d < 10
digit_below true v d p q = let e : v ≡ d = cc in grind (arith, nat_tests)
digit_below false v d p q = cc

more_places : (k l : ℕ) → k + 1 + l ≡ k + suc l
more_places k l = omega arith

one_digit : (cs : List ℕ) (so_far k n d : ℕ) → so_far < 10 ^ k → d < 10 → ((m : ℕ) → m < 10 ^ (k + 1) → number_in 10 m cs ≡ Some n → n < 10 ^ (k + 1 + length cs))
    → number_in 10 (so_far * 10 + d) cs ≡ Some n → n < 10 ^ (k + suc (length cs))
one_digit cs so_far k n d h b f p =
    let more : 10 ^ (k + 1) ≡ 10 ^ k * 10 = pow_more 10 k in
    subst (λ m. n < 10 ^ m) (more_places k (length cs)) (f (so_far * 10 + d) (omega (arith, more)) p)

by_digit : (o : Option ℕ) (cs : List ℕ) (so_far k n : ℕ) → so_far < 10 ^ k → ((d : ℕ) → o ≡ Some d → d < 10) → ((m : ℕ) → m < 10 ^ (k + 1) → number_in 10 m cs ≡ Some n → n < 10 ^ (k + 1 + length cs))
    → (o >>= λ d. number_in 10 (so_far * 10 + d) cs) ≡ Some n → n < 10 ^ (k + suc (length cs))
by_digit None cs so_far k n h b f p = cc
by_digit (Some d) cs so_far k n h b f p = one_digit cs so_far k n d h (b d refl) f p

pub number_below : (cs : List ℕ) (so_far k n : ℕ) → so_far < 10 ^ k → number_in 10 so_far cs ≡ Some n → n < 10 ^ (k + length cs)
number_below [] so_far k n h p = let e : so_far ≡ n = cc in let z : k ≡ k + 0 = omega arith in subst (λ m. n < 10 ^ m) z (subst (λ x. x < 10 ^ k) e h)
number_below (c ∷ cs) so_far k n h p =
    by_digit (digit 10 c) cs so_far k n h (λ d. digit_below (nat_lt (digit_value c) 10) (digit_value c) d refl) (λ m l. number_below cs m (k + 1) n l) p

pub nine_digits : (cs : List ℕ) (n : ℕ) → length cs ≤ 9 → number_in 10 0 cs ≡ Some n → n < 1000000000
nine_digits cs n h p = let below = number_below cs 0 0 n (lit< tt) p in let most = within_nine (0 + length cs) (omega arith) in omega (arith, below, most)

-- so is one that they read as
pub nine_read : (cs : List ℕ) (n : ℕ) → length cs ≤ 9 → decimal_number cs ≡ Some n → n < 1000000000
nine_read cs n h p = nine_digits cs n h (if_some (nat_le 1 (length cs) && nat_le (length cs) 20) (number_in 10 0 cs) n p).1
