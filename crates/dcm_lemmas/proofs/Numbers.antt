-- Small facts of numbers.
use Rattle.std.proofs.Common.{arith, false, nat_le, refl, suc, true, zero, ℕ, ◌%◌, ◌+◌, ◌/◌, ◌<◌, ◌==◌, ◌^◌, ◌∙◌, ◌≡◌, ◌≤◌}
use Rattle.std.proofs.lemmas.Bool.Decides.{nat_tests}
use Rattle.std.proofs.lemmas.Int.{clamps}
use Rattle.std.specs.Int.{byte_at}
use Rattle.std.specs.Prelude.{max, nat_lt}

pub equal_numbers : (n k : ℕ) → (n == k) ≡ true → n ≡ k
equal_numbers n k e = grind (arith, nat_tests)

pub equal_is_true : (b n : ℕ) → b ≡ n → (b == n) ≡ true
equal_is_true b n e = grind (arith, nat_tests)

pub equals_itself : (n : ℕ) → (n == n) ≡ true
equals_itself n = grind (arith, nat_tests)

pub below_not_equal : (a b : ℕ) → a < b → (a == b) ≡ false
below_not_equal a b h = grind (arith, nat_tests)

pub above_not_within : (n m : ℕ) → m < n → nat_le n m ≡ false
above_not_within n m h = grind (arith, nat_tests)

pub is_within : (a b : ℕ) → nat_le a b ≡ true → a ≤ b
is_within a b p = grind (arith, nat_tests)

pub not_below : (n m : ℕ) → m ≤ n → nat_lt n m ≡ false
not_below n m h = grind (arith, nat_tests)

pub after_is_not_zero : (n : ℕ) → (suc n == 0) ≡ true → ⊥
after_is_not_zero n p = grind (arith, nat_tests)

pub nothing_added : (n : ℕ) → n + 0 ≡ n
nothing_added n = omega arith

pub added_to_nothing : (n : ℕ) → n ≡ 0 + n
added_to_nothing n = omega arith

pub one_after : (n : ℕ) → suc n ≡ 1 + n
one_after n = omega arith

pub max_same : (a b c d m : ℕ) → m ≡ max a c → a ≡ b → c ≡ d → m ≡ max b d
max_same a b c d m e f g = e ∙ (λ i. max (f i) (g i))

pub max_assoc : (a b c : ℕ) → max (max a b) c ≡ max a (max b c)
max_assoc a b c = omega (arith, clamps)

pub max_none : (a : ℕ) → max a 0 ≡ a
max_none a = omega (arith, clamps)

pub none_max : (a : ℕ) → max 0 a ≡ a
none_max a = omega (arith, clamps)

pub byte_is : (i n : ℕ) → byte_at i n ≡ n / 256 ^ i % 256
byte_is zero n = omega arith
byte_is (suc i) n = refl

pub byte_below : (i n : ℕ) → byte_at i n < 256
byte_below zero n = omega arith
byte_below (suc i) n = let m : ℕ = n / 256 ^ suc i in omega arith
