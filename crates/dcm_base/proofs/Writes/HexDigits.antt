-- The digits that the crate hex writes are those of a dump.
use Rattle.std.proofs.Common.{◌≡◌, ◌<◌, ℕ, zero, suc, ◌/◌, ◌%◌, ◌==◌, ◌&&◌, Bool, true, List, [], ◌∷◌, ◌++◌, Result, Ok, Err, ap, ◌∙◌, arith, refl, eqb-true, inl, inr}
use Rattle.std.specs.Prelude.{slice_index, flat_map, IsOk, OnOk}
use Rattle.std.proofs.lemmas.Bool.{and_parts, cases_lt}
use Rattle.hex.specs.Hex.{encode_lower, encode_with, lower_digits}
use Rattle.dcm_base.specs.Tables.Number.{AreBytes}
use Rattle.dcm_base.specs.Dump.ValueText.{lower, hex_byte, hex_word}

-- the first n digits of the table
are_digits : ℕ → Bool
are_digits zero = true
are_digits (suc n) = slice_index lower_digits n == lower n && are_digits n

whole : are_digits 16 ≡ true
unfolding are_digits
whole = refl

digit_at : (n d : ℕ) → are_digits n ≡ true → d < n → slice_index lower_digits d ≡ lower d
unfolding are_digits
digit_at zero d e l = absurd (omega arith)
digit_at (suc n) d e l =
    let parts = and_parts (slice_index lower_digits n == lower n) (are_digits n) e in
    elim (cases_lt d n) [
      | inl below ↦ digit_at n d parts.1 below
      | inr last ↦
          let same : d ≡ n = omega arith in
          rw same (eqb-true (slice_index lower_digits n) (lower n) parts.0)
    ]

pub same_digit : (d : ℕ) → d < 16 → slice_index lower_digits d ≡ lower d
same_digit d l = digit_at 16 d whole l

-- the text of bytes
pub same_digits : (bytes : List ℕ) → AreBytes bytes → encode_lower bytes ≡ flat_map hex_byte bytes
unfolding encode_with
same_digits [] h = refl
same_digits (b ∷ bs) h =
    let small : b < 256 = h 0 in
    ap (λ d. d ∷ slice_index lower_digits (b % 16) ∷ encode_lower bs) (same_digit (b / 16) (omega arith))
    ∙ ap (λ d. lower (b / 16) ∷ d ∷ encode_lower bs) (same_digit (b % 16) (omega arith))
    ∙ ap (λ ds. lower (b / 16) ∷ lower (b % 16) ∷ ds) (same_digits bs (λ i. h (suc i)))

two_bytes : (a b : ℕ) → a < 256 → b < 256 → AreBytes (a ∷ b ∷ [])
two_bytes a b x y zero = x
two_bytes a b x y (suc zero) = y
two_bytes a b x y (suc (suc i)) = omega arith

-- the text of a number of two bytes
pub word_digits : (n : ℕ) → n < 65536 → encode_lower (n / 256 % 256 ∷ n % 256 ∷ []) ≡ hex_word n
word_digits n l =
    let high : n / 256 % 256 ≡ n / 256 = omega arith in
    same_digits (n / 256 % 256 ∷ n % 256 ∷ []) (two_bytes (n / 256 % 256) (n % 256) (omega arith) (omega arith))
    ∙ ap (λ h. hex_byte h ++ hex_byte (n % 256)) high

-- what was written
pub written_out : {E : Type 0} → (r : Result Unit E) (out digits : List ℕ) → IsOk r → OnOk r (out ≡ digits) → out ≡ digits
written_out (Ok t) out digits o h = h
written_out (Err e) out digits o h = cc o
