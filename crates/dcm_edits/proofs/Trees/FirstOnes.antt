-- The first element of a list that is not empty, and the rest.
use Rattle.std.proofs.Common.{◌≡◌, ℕ, suc, ◌-◌, ◌≤◌, List, [], ◌∷◌, length, take, drop, get_or, refl, ap, arith}
use Rattle.std.proofs.Math.Seq.{take-length}

one_less : (n : ℕ) → suc n - 1 ≡ n
one_less n = omega arith

whole : {A : Type 0} (xs : List A) (n : ℕ) → n ≡ length xs → take n xs ≡ xs
whole xs n e = rw e (take-length xs)

pub front : {A : Type 0} (xs : List A) (d : A) → 1 ≤ length xs → xs ≡ get_or xs 0 d ∷ take (length xs - 1) (drop 1 xs)
front [] d h = absurd (omega arith)
front (x ∷ xs) d h = let e : xs ≡ take (suc (length xs) - 1) xs = rw (whole xs (suc (length xs) - 1) (one_less (length xs))) refl in ap (λ l. x ∷ l) e

pub front_length : {A : Type 0} (xs : List A) → 1 ≤ length xs → suc (length (take (length xs - 1) (drop 1 xs))) ≡ length xs
front_length [] h = absurd (omega arith)
front_length (x ∷ xs) h = ap suc (ap length (whole xs (suc (length xs) - 1) (one_less (length xs))))
