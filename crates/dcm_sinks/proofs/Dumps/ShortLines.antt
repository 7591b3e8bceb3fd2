-- Short numbers in the lines of a dump.
use Rattle.std.proofs.Common.{◌≡◌, ◌∙◌, ap, sym, refl, ℕ, ◌+◌, ◌/◌, ◌%◌, ◌<◌, ◌≤◌, List, [], ◌∷◌, ◌++◌, decimal, codes}
use Rattle.std.proofs.lemmas.Fmt.{decimal_digit}
use Rattle.itoa.proofs.Decimal.{decimal_two}
use Rattle.dcm_base.specs.declared.length.Length.{Length}
use Rattle.dcm_base.specs.declared.length.Length.TheVariants.{Known}
use Rattle.dcm_sinks.specs.Layout.{length_field, rest_start}

pub one_digit : (n : ℕ) → n < 10 → 32 ∷ 32 ∷ (48 + n) ∷ [] ≡ length_field (Known n)
one_digit n h = rw (decimal_digit n h) refl

pub two_digits : (n : ℕ) → 10 ≤ n → n < 100 → 32 ∷ (48 + n / 10) ∷ (48 + n % 10) ∷ [] ≡ length_field (Known n)
two_digits n least h = rw (decimal_two n least h) refl

pub short_start : (declared : Length) (a b c count : ℕ) → a ∷ b ∷ c ∷ [] ≡ length_field declared → count < 10
    → 32 ∷ 35 ∷ 32 ∷ a ∷ b ∷ c ∷ 44 ∷ 32 ∷ (48 + count) ∷ 32 ∷ [] ≡ rest_start declared count
short_start declared a b c count field small =
    ap (λ (d : List ℕ). 32 ∷ 35 ∷ 32 ∷ a ∷ b ∷ c ∷ 44 ∷ 32 ∷ (d ++ 32 ∷ [])) (sym (decimal_digit count small))
    ∙ ap (λ (f : List ℕ). codes " # " ++ f ++ codes ", " ++ decimal count ++ codes " ") field
