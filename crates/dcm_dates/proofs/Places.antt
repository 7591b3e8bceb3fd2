-- The first place at which a test passes, and the parts of a text.
use Rattle.std.proofs.Common.{◌≡◌, ◌<◌, ◌≤◌, ℕ, ◌+◌, Bool, true, false, List, [], ◌∷◌, length, take, drop, Some, None, arith, ap, ◌∙◌, sym}
use Rattle.std.specs.Prelude.{nat_lt, cond, not, position}
use Rattle.std.specs.List.{position_or_len, slice_split}
use Rattle.std.proofs.lemmas.Bool.{cases_lt, lt-ltb, le-ltb}
use Rattle.std.proofs.lemmas.List.Splits.{slice_split_first}
use Rattle.std.proofs.Common.{inl, inr}
use Rattle.dcm_lemmas.proofs.Lists.{one_part}
use Rattle.dcm_lemmas.proofs.Options.{none_is, some_back}

some_place : (n m at : ℕ) → cond (nat_lt n m) (Some n) None ≡ Some at → (n < m) × (at ≡ n)
some_place n m at e = elim (cases_lt n m) [
  | inl l ↦ (l, some_back n at (sym (ap (λ (b : Bool). cond b (Some n) None) (lt-ltb n m l)) ∙ e))
  | inr l ↦ absurd (none_is at (sym (sym (ap (λ (b : Bool). cond b (Some n) None) (le-ltb n m l)) ∙ e)))
]

no_place : (n m : ℕ) → cond (nat_lt n m) (Some n) None ≡ None → m ≤ n
no_place n m e = elim (cases_lt n m) [
  | inl l ↦ absurd (none_is n (sym (ap (λ (b : Bool). cond b (Some n) None) (lt-ltb n m l)) ∙ e))
  | inr l ↦ l
]

-- a place that was found, and none
pub found : (p : ℕ → Bool) (xs : List ℕ) (at : ℕ) → position p xs ≡ Some at → (position_or_len p xs ≡ at) × (at < length xs)
found p xs at e = let place = some_place (position_or_len p xs) (length xs) at e in (sym place.1, rw place.1 place.0)

pub not_found : (p : ℕ → Bool) (xs : List ℕ) → position p xs ≡ None → position_or_len p xs ≡ length xs
not_found p xs e = let past = no_place (position_or_len p xs) (length xs) e in let most = at_most p xs in omega arith
  where
    at_most : (p : ℕ → Bool) (xs : List ℕ) → position_or_len p xs ≤ length xs
    at_most p [] = omega arith
    at_most p (x ∷ xs) = by_test (p x) (at_most p xs)
      where
        by_test : (t : Bool) → position_or_len p xs ≤ length xs → cond (not t) (1 + position_or_len p xs) 0 ≤ length (x ∷ xs)
        by_test true h = omega arith
        by_test false h = omega arith

-- ---- parts

-- the first part ends at the first separator, where there is one
pub parts_first : (p : ℕ → Bool) (xs : List ℕ) (at : ℕ) → position p xs ≡ Some at
    → slice_split p xs ≡ take at xs ∷ slice_split p (drop (at + 1) xs)
parts_first p xs at e =
    let place = some_place (position_or_len p xs) (length xs) at e in
    slice_split_first p xs 0 place.0 ∙ ap (λ (k : ℕ). take k xs ∷ slice_split p (drop (k + 1) xs)) (sym place.1)

pub parts_last : (p : ℕ → Bool) (xs : List ℕ) → position p xs ≡ None → slice_split p xs ≡ xs ∷ []
parts_last p xs e = one_part p xs (no_place (position_or_len p xs) (length xs) e)
