-- The table of digits.
use Rattle.std.proofs.Common.{◌≡◌, ◌<◌, ℕ, zero, suc, ◌+◌, ◌*◌, ◌/◌, ◌%◌, ◌==◌, ◌&&◌, Bool, true, false, List, [], ◌∷◌, length, get_or, refl, ap, ◌∙◌, arith, eqb-true}
use Rattle.std.proofs.lemmas.Bool.{false≢true}
use Rattle.dcm_lemmas.proofs.Truth.{and_parts}
use Rattle.dcm_base.specs.Dump.ValueText.{lower, hex_byte}
use Rattle.dcm_value.specs.declared.units.TheConstants.{DIGITS}

-- the digits of the bytes from b on
abbrev are_digits : ℕ → List ℕ → Bool
are_digits b [] = true
are_digits b (x ∷ []) = false
are_digits b (x ∷ y ∷ rest) = (x == lower (b / 16) && y == lower (b % 16)) && are_digits (suc b) rest

unfoldable digits : List ℕ
digits = DIGITS

whole : are_digits 0 digits ≡ true
unfolding digits
whole = refl

size : length digits ≡ 512
unfolding digits
size = refl

-- the pair at a place
in_table : (n b : ℕ) (l : List ℕ) → are_digits b l ≡ true → n + n + 1 < length l → (get_or l (n + n) 0 ≡ lower ((b + n) / 16)) × (get_or l (n + n + 1) 0 ≡ lower ((b + n) % 16))
in_table n b [] e h = absurd (omega arith)
in_table n b (x ∷ []) e h = absurd (false≢true e)
in_table zero b (x ∷ y ∷ rest) e h =
    let here = and_parts (x == lower (b / 16)) (y == lower (b % 16)) (and_parts _ _ e).0 in
    let same : b ≡ b + 0 = omega arith in
    (eqb-true x (lower (b / 16)) here.0 ∙ ap (λ k. lower (k / 16)) same, eqb-true y (lower (b % 16)) here.1 ∙ ap (λ k. lower (k % 16)) same)
in_table (suc n) b (x ∷ y ∷ rest) e h =
    let there = in_table n (suc b) rest (and_parts (x == lower (b / 16) && y == lower (b % 16)) _ e).1 (omega arith) in
    let first : suc n + suc n ≡ suc (suc (n + n)) = omega arith in
    let second : suc n + suc n + 1 ≡ suc (suc (n + n + 1)) = omega arith in
    let same : suc b + n ≡ b + suc n = omega arith in (
      ap (λ k. get_or (x ∷ y ∷ rest) k 0) first ∙ there.0 ∙ ap (λ k. lower (k / 16)) same,
      ap (λ k. get_or (x ∷ y ∷ rest) k 0) second ∙ there.1 ∙ ap (λ k. lower (k % 16)) same,
    )

pair_shown : (b : ℕ) → get_or digits (2 * b) 0 ≡ lower (b / 16) → get_or digits (2 * b + 1) 0 ≡ lower (b % 16) → get_or DIGITS (2 * b) 0 ∷ get_or DIGITS (2 * b + 1) 0 ∷ [] ≡ hex_byte b
unfolding digits
pair_shown b p q = ap (λ x. x ∷ get_or DIGITS (2 * b + 1) 0 ∷ []) p ∙ ap (λ y. lower (b / 16) ∷ y ∷ []) q

pub digits_shown : (b : ℕ) → b < 256 → get_or DIGITS (2 * b) 0 ∷ get_or DIGITS (2 * b + 1) 0 ∷ [] ≡ hex_byte b
digits_shown b h =
    let pair = in_table b 0 digits whole (omega (arith, size)) in
    let twice : 2 * b ≡ b + b = omega arith in
    let same : 0 + b ≡ b = omega arith in
    pair_shown b (ap (λ k. get_or digits k 0) twice ∙ pair.0 ∙ ap (λ k. lower (k / 16)) same) (ap (λ k. get_or digits (k + 1) 0) twice ∙ pair.1 ∙ ap (λ k. lower (k % 16)) same)
