-- No character stands twice in a right half.
use Rattle.std.proofs.Common.{◌≡◌, ℕ, zero, suc, ◌-◌, ◌≤◌, ◌<◌, Bool, true, false, cond, List, [], ◌∷◌, get_or, Option, Some, None}
use Rattle.std.proofs.Common.{refl, ap, ◌∙◌, arith}
use Rattle.std.specs.Prelude.{◌==◌, ◌&&◌, ◌||◌, not, nat_lt}
use Rattle.std.proofs.lemmas.Bool.{and_parts}
use Rattle.std.proofs.lemmas.Bool.Decides.{nat_tests}
use lib.Utf8.{scalar}
use Rattle.dcm_lemmas.proofs.Truth.{or_first, or_second}
use Rattle.dcm_text.specs.declared.characters.Single.{Single}
use Rattle.dcm_text.specs.declared.characters.Single.TheVariants.{Ir13, Ir100, Ir101, Ir109, Ir110, Ir126, Ir127, Ir138, Ir144, Ir148, Ir166, Ir203}
use Rattle.dcm_text.specs.Characters.{right_half, entry, single_character}

has : ℕ → List ℕ → Bool
has x [] = false
has x (y ∷ ys) = (y == x) || has x ys

-- each number but 0 stands once
are_apart : List ℕ → Bool
are_apart [] = true
are_apart (x ∷ xs) = ((x == 0) || not (has x xs)) && are_apart xs

has_at : (xs : List ℕ) (i x : ℕ) → get_or xs i 0 ≡ x → 0 < x → has x xs ≡ true
unfolding has
has_at [] i x e l = absurd (omega arith)
has_at (y ∷ ys) zero x e l = or_first (y == x) (has x ys) (grind (arith, nat_tests))
has_at (y ∷ ys) (suc i) x e l = or_second (y == x) (has x ys) (has_at ys i x e l)

not_apart : (y x : ℕ) (ys : List ℕ) → (y == 0) || not (has y ys) ≡ true → y ≡ x → 0 < x → has x ys ≡ true → ⊥
not_apart y x ys e same l h = absurd (of_tests (y == 0) (has y ys) (grind (arith, nat_tests)) (ap (λ (z : ℕ). has z ys) same ∙ h) e)
  where
    of_tests : (s t : Bool) → s ≡ false → t ≡ true → s || not t ≡ true → ⊥
    of_tests true t p q e = absurd (grind arith)
    of_tests false true p q e = absurd (grind arith)
    of_tests false false p q e = absurd (grind arith)

one_place : (xs : List ℕ) (i j x : ℕ) → are_apart xs ≡ true → get_or xs i 0 ≡ x → get_or xs j 0 ≡ x → 0 < x → i ≡ j
unfolding are_apart
one_place [] i j x e p q l = absurd (omega arith)
one_place (y ∷ ys) zero zero x e p q l = refl
one_place (y ∷ ys) zero (suc j) x e p q l =
    let both = and_parts ((y == 0) || not (has y ys)) (are_apart ys) e in
    absurd (not_apart y x ys both.0 p l (has_at ys j x q l))
one_place (y ∷ ys) (suc i) zero x e p q l =
    let both = and_parts ((y == 0) || not (has y ys)) (are_apart ys) e in
    absurd (not_apart y x ys both.0 q l (has_at ys i x p l))
one_place (y ∷ ys) (suc i) (suc j) x e p q l =
    let both = and_parts ((y == 0) || not (has y ys)) (are_apart ys) e in
    ap suc (one_place ys i j x both.1 p q l)

all_apart : (s : Single) → are_apart (right_half s) ≡ true
unfolding right_half are_apart has
all_apart Ir13 = refl
all_apart Ir100 = refl
all_apart Ir101 = refl
all_apart Ir109 = refl
all_apart Ir110 = refl
all_apart Ir126 = refl
all_apart Ir127 = refl
all_apart Ir138 = refl
all_apart Ir144 = refl
all_apart Ir148 = refl
all_apart Ir166 = refl
all_apart Ir203 = refl

no_some : (c : ℕ) → (let o : Option ℕ = None in o ≡ Some c) → ⊥
no_some c e = cc

-- what an entry with a character is
entry_is : (table : List ℕ) (at c : ℕ) → entry table at ≡ Some c → (get_or table at 0 ≡ c) × (0 < c)
entry_is table at c e = of_tests (get_or table at 0 == 0) (scalar (get_or table at 0)) refl e
  where
    of_tests : (s t : Bool) → (get_or table at 0 == 0) ≡ s → cond s None (cond t (Some (get_or table at 0)) None) ≡ Some c
        → (get_or table at 0 ≡ c) × (0 < c)
    of_tests true t p e = absurd (no_some c e)
    of_tests false false p e = absurd (no_some c e)
    of_tests false true p e =
        let same : get_or table at 0 ≡ c = cc in
        let more : 0 < get_or table at 0 = grind (arith, nat_tests) in
        (same, omega arith)

byte_is : (s : Single) (byte c : ℕ) → single_character s byte ≡ Some c → (0xA0 ≤ byte) × (get_or (right_half s) (byte - 0xA0) 0 ≡ c) × (0 < c)
byte_is s byte c e = of_test (nat_lt byte 0xA0) refl e
  where
    of_test : (t : Bool) → nat_lt byte 0xA0 ≡ t → cond t None (entry (right_half s) (byte - 0xA0)) ≡ Some c
        → (0xA0 ≤ byte) × (get_or (right_half s) (byte - 0xA0) 0 ≡ c) × (0 < c)
    of_test true p e = absurd (no_some c e)
    of_test false p e =
        let is = entry_is (right_half s) (byte - 0xA0) c e in
        (grind (arith, nat_tests), is.0, is.1)

pub same_byte : (s : Single) (a b c : ℕ) → single_character s a ≡ Some c → single_character s b ≡ Some c → a ≡ b
same_byte s a b c p q =
    let first = byte_is s a c p in
    let second = byte_is s b c q in
    let same : a - 0xA0 ≡ b - 0xA0 = one_place (right_half s) (a - 0xA0) (b - 0xA0) c (all_apart s) first.1 second.1 first.2 in
    omega (arith, first.0, second.0, same)
