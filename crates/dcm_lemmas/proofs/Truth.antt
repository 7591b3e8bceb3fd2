-- Small facts of tests.
use Rattle.std.proofs.Common.{Bool, false, inl, inr, not, refl, sym, true, ◌&&◌, ◌||◌, ◌≡◌, ◌⊎◌}

pub true_false : {A : Type 0} (b : Bool) → b ≡ true → b ≡ false → A
true_false b e f = absurd (cc)

pub and_second : (a b : Bool) → (a && b) ≡ true → b ≡ true
and_second true b e = e
and_second false b e = cc

pub and_first : (a b : Bool) → (a && b) ≡ true → a ≡ true
and_first true b e = refl
and_first false b e = cc

pub and_parts : (a b : Bool) → (a && b) ≡ true → (a ≡ true) × (b ≡ true)
and_parts true b e = (refl, e)
and_parts false b e = absurd (cc)

pub not_true : (t : Bool) → not t ≡ true → t ≡ false
not_true true e = absurd cc
not_true false e = refl

pub not_false : (a : Bool) → not a ≡ false → a ≡ true
not_false true p = refl
not_false false p = cc

pub and_both : (a b : Bool) → a ≡ true → b ≡ true → (a && b) ≡ true
and_both a b p q = rw p q

pub or_first : (a b : Bool) → a ≡ true → (a || b) ≡ true
or_first a b e = cc

pub or_second : (a b : Bool) → b ≡ true → (a || b) ≡ true
or_second true b e = refl
or_second false b e = e

pub or_neither : (a b : Bool) → a ≡ false → b ≡ false → (a || b) ≡ false
or_neither a b p q = cc

pub and_second_false : (a b : Bool) → b ≡ false → (a && b) ≡ false
and_second_false true b p = p
and_second_false false b p = refl

pub and_first_false : (a b : Bool) → a ≡ false → (a && b) ≡ false
and_first_false a b p = cc

pub or_alike : (a b c d : Bool) → a ≡ b → c ≡ d → (a || c) ≡ (b || d)
or_alike a b c d e f = cc

pub or_true : (b : Bool) → (b || true) ≡ true
or_true true = refl
or_true false = refl

pub or_parts : (a b : Bool) → (a || b) ≡ false → (a ≡ false) × (b ≡ false)
or_parts false b e = (refl, e)
or_parts true b e = absurd cc

pub is_false : (b : Bool) → (b ≡ true → ⊥) → b ≡ false
is_false true not = absurd (not refl)
is_false false not = refl

pub or_after_false : (b c : Bool) → b ≡ false → (b || c) ≡ c
or_after_false b c p = rw p refl

pub or_before_false : (a b : Bool) → b ≡ false → (a || b) ≡ a
or_before_false true b p = refl
or_before_false false b p = p

pub and_false : (a : Bool) → (a && false) ≡ false
and_false true = refl
and_false false = refl

pub and_true : (b : Bool) → (b && true) ≡ b
and_true true = refl
and_true false = refl

pub or_false : (b : Bool) → (b || false) ≡ b
or_false true = refl
or_false false = refl

pub or_group : (a b c : Bool) → ((a || b) || c) ≡ (a || (b || c))
or_group true b c = refl
or_group false b c = refl

pub or_second_false : (a b : Bool) → (a || b) ≡ false → b ≡ false
or_second_false true b p = cc
or_second_false false b p = p

pub or_first_false : (a b : Bool) → (a || b) ≡ false → a ≡ false
or_first_false true b p = cc
or_first_false false b p = refl

pub implied : (a b : Bool) → a ≡ true → (not a || b) ≡ true → b ≡ true
implied true b e f = f
implied false b e f = absurd cc

pub or_last_false : (a b c d : Bool) → (a || b || c || d) ≡ false → d ≡ false
or_last_false true b c d p = cc
or_last_false false true c d p = cc
or_last_false false false true d p = cc
or_last_false false false false d p = p

pub or_cases : (a b : Bool) → (a || b) ≡ true → (a ≡ true) ⊎ (b ≡ true)
or_cases true b e = inl refl
or_cases false b e = inr e

pub and_last_false : (a b : Bool) → (a && (b && false)) ≡ false
and_last_false true true = refl
and_last_false true false = refl
and_last_false false b = refl

pub or_others_false : (a b c : Bool) → b ≡ false → c ≡ false → a ≡ (a || (b || c))
or_others_false true b c p q = refl
or_others_false false b c p q = rw p (sym q)

pub neither_second : (a b : Bool) → (not a && not b) ≡ true → b ≡ false
neither_second a false e = refl
neither_second true true e = absurd (cc)
neither_second false true e = absurd (cc)

pub false_true : false ≡ true → ⊥
false_true e = cc
