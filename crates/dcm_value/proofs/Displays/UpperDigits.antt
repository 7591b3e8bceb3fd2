-- The digits that the crate hex writes, in upper case.
use Rattle.std.proofs.Common.{◌≡◌, ◌<◌, ℕ, zero, suc, ◌==◌, ◌&&◌, Bool, true, refl, arith, eqb-true, inl, inr}
use Rattle.std.specs.Char.{to_ascii_uppercase}
use Rattle.std.proofs.lemmas.Bool.{and_parts, cases_lt}
use Rattle.dcm_base.specs.Dump.ValueText.{lower, upper}

-- the first n digits
are_upper : ℕ → Bool
are_upper zero = true
are_upper (suc n) = to_ascii_uppercase (lower n) == upper n && are_upper n

whole : are_upper 16 ≡ true
unfolding are_upper
whole = refl

digit_at : (n d : ℕ) → are_upper n ≡ true → d < n → to_ascii_uppercase (lower d) ≡ upper d
unfolding are_upper
digit_at zero d e l = absurd (omega arith)
digit_at (suc n) d e l =
    let parts = and_parts (to_ascii_uppercase (lower n) == upper n) (are_upper n) e in
    elim (cases_lt d n) [
      | inl below ↦ digit_at n d parts.1 below
      | inr last ↦
          let same : d ≡ n = omega arith in
          rw same (eqb-true (to_ascii_uppercase (lower n)) (upper n) parts.0)
    ]

pub upper_digit : (d : ℕ) → d < 16 → to_ascii_uppercase (lower d) ≡ upper d
upper_digit d l = digit_at 16 d whole l
