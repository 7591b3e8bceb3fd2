-- The text of a value stands for the value: texts in brackets.
use Rattle.std.proofs.Common.{◌≡◌, ℕ, suc, ◌<◌, ◌+◌, ◌*◌, ◌/◌, ◌%◌, List, [], ◌∷◌, ◌++◌, length, Some, Bool, true, false, refl, ◌∙◌, ap, arith, append_assoc, length-append}
use Rattle.std.specs.Prelude.{if◌then◌else◌, nat_lt, ◌==◌, ◌||◌}
use Rattle.std.proofs.lemmas.Bool.Decides.{nat_tests}
use Rattle.dcm_lemmas.proofs.Truth.{or_last_false}
use Rattle.dcm_base.specs.Tables.Number.{AreBytes}
use Rattle.dcm_base.specs.Lines.ReadValue.{◌>>=◌, digit, number_in, hex_number, bracketed_value}
use Rattle.dcm_base.specs.Dump.ValueText.{lower, upper, escape, escaped}

-- each is a byte
abbrev pub Bytes : List ℕ → Type 0
Bytes [] = Unit {0}
Bytes (b ∷ v) = (b < 256) × Bytes v

pub bytes_of : (v : List ℕ) → AreBytes v → Bytes v
bytes_of [] h = tt
bytes_of (b ∷ v) h = (h 0, bytes_of v (λ i. h (suc i)))

-- ---- digits

pub upper_digit : (d : ℕ) → d < 16 → digit 16 (upper d) ≡ Some d
upper_digit d l = grind (arith, nat_tests)

pub lower_digit : (d : ℕ) → d < 16 → digit 16 (lower d) ≡ Some d
lower_digit d l = grind (arith, nat_tests)

two_digits : (x y d e : ℕ) → digit 16 x ≡ Some d → digit 16 y ≡ Some e → number_in 16 0 (x ∷ y ∷ []) ≡ Some ((0 * 16 + d) * 16 + e)
two_digits x y d e p q =
    ap (λ o. o >>= λ i. digit 16 y >>= λ j. Some ((0 * 16 + i) * 16 + j)) p
    ∙ ap (λ o. o >>= λ j. Some ((0 * 16 + d) * 16 + j)) q

halves : (b : ℕ) → (0 * 16 + b / 16) * 16 + b % 16 ≡ b
halves b = omega arith

pub byte_digits : (b : ℕ) → b < 256 → hex_number 2 (upper (b / 16) ∷ upper (b % 16) ∷ []) ≡ Some b
byte_digits b l =
    two_digits (upper (b / 16)) (upper (b % 16)) (b / 16) (b % 16) (upper_digit (b / 16) (omega (arith, l))) (upper_digit (b % 16) (omega arith)) ∙ ap Some (halves b)

-- ---- brackets

plain : (c : ℕ) (w : List ℕ) → 0 < length w → (c == 93) ≡ false → (c == 37) ≡ false → bracketed_value (c ∷ w) ≡ (bracketed_value w >>= λ more. Some (c ∷ more))
plain c [] l p q = absurd (omega (arith, l))
plain c (d ∷ []) l p q = rw (p, q) refl
plain c (d ∷ e ∷ w) l p q = rw (p, q) refl

or_third : (a b c d : Bool) → (a || b || c || d) ≡ false → c ≡ false
or_third true b c d p = cc
or_third false true c d p = cc
or_third false false true d p = cc
or_third false false false d p = refl

one_more : (b : ℕ) (r v : List ℕ) → b < 256 → 0 < length r → bracketed_value r ≡ Some v → bracketed_value (escape b ++ r) ≡ Some (b ∷ v)
one_more b r v l p q = by_test (nat_lt b 32 || b == 127 || b == 37 || b == 93) refl
  where
    by_test : (t : Bool) → (nat_lt b 32 || b == 127 || b == 37 || b == 93) ≡ t → bracketed_value ((if t then 37 ∷ upper (b / 16) ∷ upper (b % 16) ∷ [] else b ∷ []) ++ r) ≡ Some (b ∷ v)
    by_test true e = ap (λ o. o >>= λ x. bracketed_value r >>= λ m. Some (x ∷ m)) (byte_digits b l) ∙ ap (λ o. o >>= λ m. Some (b ∷ m)) q
    by_test false e = plain b r p (or_last_false (nat_lt b 32) (b == 127) (b == 37) (b == 93) e) (or_third (nat_lt b 32) (b == 127) (b == 37) (b == 93) e) ∙ ap (λ o. o >>= λ m. Some (b ∷ m)) q

some_left : (r : List ℕ) → 0 < length (r ++ 93 ∷ [])
some_left r = omega (arith, length-append r (93 ∷ []))

pub escaped_back : (v : List ℕ) → Bytes v → bracketed_value (escaped v ++ 93 ∷ []) ≡ Some v
escaped_back [] h = refl
escaped_back (b ∷ v) h =
    ap bracketed_value (append_assoc (escape b) (escaped v) (93 ∷ []))
    ∙ one_more b (escaped v ++ 93 ∷ []) v h.0 (some_left (escaped v)) (escaped_back v h.1)
