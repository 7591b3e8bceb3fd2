-- The terms of a value, and the bytes at their ends that do not count.
use Rattle.std.proofs.Common.{◌≡◌, ◌<◌, ◌≤◌, ℕ, ◌+◌, ◌-◌, Bool, true, false, List, [], ◌∷◌, ◌++◌, length, take, drop, get_or, Some, None, refl}
use Rattle.std.proofs.Common.{arith, ap, ◌∙◌, sym, inl, inr}
use Rattle.std.specs.Prelude.{nat_lt, cond, not, position}
use Rattle.std.specs.List.{position_or_len, slice_split}
use Rattle.std.proofs.lemmas.Bool.{cases_lt, lt-ltb, le-ltb}
use Rattle.std.proofs.lemmas.List.{take_more}
use Rattle.std.proofs.lemmas.List.Splits.{slice_split_first}
use Rattle.std.proofs.Math.Seq.{take-length}
use Rattle.dcm_lemmas.proofs.Lists.{one_part}
use Rattle.dcm_lemmas.proofs.Options.{none_is, some_back}
use Rattle.dcm_text.specs.Sets.{is_pad, onto, without_pads}

some_place : (n m at : ℕ) → cond (nat_lt n m) (Some n) None ≡ Some at → (n < m) × (at ≡ n)
some_place n m at e = elim (cases_lt n m) [
  | inl l ↦ (l, some_back n at (sym (ap (λ (b : Bool). cond b (Some n) None) (lt-ltb n m l)) ∙ e))
  | inr l ↦ absurd (none_is at (sym (sym (ap (λ (b : Bool). cond b (Some n) None) (le-ltb n m l)) ∙ e)))
]

no_place : (n m : ℕ) → cond (nat_lt n m) (Some n) None ≡ None → m ≤ n
no_place n m e = elim (cases_lt n m) [
  | inl l ↦ absurd (none_is n (sym (ap (λ (b : Bool). cond b (Some n) None) (lt-ltb n m l)) ∙ e))
  | inr l ↦ l
]

-- ---- parts
-- the first part ends at the first separator, where there is one
pub parts_first : (p : ℕ → Bool) (xs : List ℕ) (at : ℕ) → position p xs ≡ Some at
    → slice_split p xs ≡ take at xs ∷ slice_split p (drop (at + 1) xs)
parts_first p xs at e =
    let place = some_place (position_or_len p xs) (length xs) at e in
    slice_split_first p xs 0 place.0 ∙ ap (λ (k : ℕ). take k xs ∷ slice_split p (drop (k + 1) xs)) (sym place.1)

pub parts_last : (p : ℕ → Bool) (xs : List ℕ) → position p xs ≡ None → slice_split p xs ≡ xs ∷ []
parts_last p xs e = one_part p xs (no_place (position_or_len p xs) (length xs) e)

-- ---- bytes at the end of a term

pub pads_last : (xs : List ℕ) (b : ℕ) → is_pad b ≡ true → without_pads (xs ++ b ∷ []) ≡ without_pads xs
pads_last [] b e = ap (λ (t : Bool). cond t [] (b ∷ [])) e
pads_last (x ∷ xs) b e = ap (onto x) (pads_last xs b e)

onto_last : (x : ℕ) (xs : List ℕ) (b : ℕ) → onto x (xs ++ b ∷ []) ≡ x ∷ (xs ++ b ∷ [])
onto_last x [] b = refl
onto_last x (y ∷ xs) b = refl

no_pad_last : (xs : List ℕ) (b : ℕ) → is_pad b ≡ false → without_pads (xs ++ b ∷ []) ≡ xs ++ b ∷ []
no_pad_last [] b e = ap (λ (t : Bool). cond t [] (b ∷ [])) e
no_pad_last (x ∷ xs) b e = ap (onto x) (no_pad_last xs b e) ∙ onto_last x xs b

last_apart : (xs : List ℕ) → 1 ≤ length xs → xs ≡ take (length xs - 1) xs ++ get_or xs (length xs - 1) 0 ∷ []
last_apart xs l =
    sym (take-length xs) ∙ ap (λ (k : ℕ). take k xs) (let e : length xs ≡ (length xs - 1) + 1 = omega arith in e)
    ∙ take_more xs (length xs - 1) 0 (omega arith)

pub pad_cut : (xs : List ℕ) → 1 ≤ length xs → is_pad (get_or xs (length xs - 1) 0) ≡ true
    → without_pads (take (length xs - 1) xs) ≡ without_pads xs
pad_cut xs l e = sym (ap without_pads (last_apart xs l) ∙ pads_last (take (length xs - 1) xs) (get_or xs (length xs - 1) 0) e)

pub no_pad_cut : (xs : List ℕ) → 1 ≤ length xs → is_pad (get_or xs (length xs - 1) 0) ≡ false → without_pads xs ≡ xs
no_pad_cut xs l e =
    ap without_pads (last_apart xs l) ∙ no_pad_last (take (length xs - 1) xs) (get_or xs (length xs - 1) 0) e
    ∙ sym (last_apart xs l)
