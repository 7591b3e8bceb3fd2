-- The first edit that overlaps an earlier one.
use Rattle.std.proofs.Common.{◌≡◌, ℕ, zero, suc, ◌+◌, ◌<◌, List, [], ◌∷◌, ◌++◌, length, map, take, drop, get_or, Option, Some, Bool, true, false, ◌||◌, cond, refl, sym, ◌∙◌, ap, arith, add-one, drop-cons}
use Rattle.std.proofs.lemmas.List.{map-append}
use Rattle.dcm_edits.specs.declared.edit.Edit as declared
use Rattle.dcm_edits.specs.Edit.{Edit}
use Rattle.dcm_edits.specs.Meaning.{edit_of}
use Rattle.dcm_edits.specs.Overlap.{overlaps, overlaps_one, first_overlap}

or_comes : (a b c : Bool) → (a || (b || c)) ≡ (b || (a || c))
or_comes true true c = refl
or_comes true false c = refl
or_comes false b c = refl

one_more : (es : List Edit) (x e : Edit) → overlaps_one (es ++ x ∷ []) e ≡ (overlaps x e || overlaps_one es e)
one_more [] x e = refl
one_more (y ∷ es) x e = ap (λ b. overlaps y e || b) (one_more es x e) ∙ or_comes (overlaps y e) (overlaps x e) (overlaps_one es e)

-- what is earlier counts by what it overlaps
abbrev Alike : List Edit → List Edit → Type 0
Alike a b = (e : Edit) → overlaps_one a e ≡ overlaps_one b e

same_by : (t u : Bool) (n : ℕ) (x y : Option ℕ) → t ≡ u → x ≡ y → cond t (Some n) x ≡ cond u (Some n) y
same_by t u n x y p q = cc

alike : (n : ℕ) (a b es : List Edit) → Alike a b → first_overlap n a es ≡ first_overlap n b es
alike n a b [] h = refl
alike n a b (e ∷ es) h = same_by (overlaps_one a e) (overlaps_one b e) n _ _ (h e) (alike (suc n) (e ∷ a) (e ∷ b) es (λ x. ap (λ t. overlaps e x || t) (h x)))

passed_by : (t : Bool) (n : ℕ) (x : Option ℕ) → t ≡ false → cond t (Some n) x ≡ x
passed_by true n x p = cc
passed_by false n x p = refl

found_by : (t : Bool) (n : ℕ) (x : Option ℕ) → t ≡ true → cond t (Some n) x ≡ Some n
found_by true n x p = refl
found_by false n x p = cc

passed : (n : ℕ) (earlier : List Edit) (e : Edit) (es : List Edit) → overlaps_one earlier e ≡ false → first_overlap n earlier (e ∷ es) ≡ first_overlap (suc n) (earlier ++ e ∷ []) es
passed n earlier e es p = passed_by (overlaps_one earlier e) n _ p ∙ alike (suc n) (e ∷ earlier) (earlier ++ e ∷ []) es (λ x. sym (one_more earlier e x))

-- the edits from place i on, after those before it
abbrev pub from_place : {A : Type 0} → ℕ → List (declared.Edit A) → Option ℕ
from_place i es = first_overlap (i + 1) (map edit_of (take i es)) (map edit_of (drop i es))

taken : {A : Type 0} (i : ℕ) (es : List (declared.Edit A)) (d : declared.Edit A) → i < length es → take (suc i) es ≡ take i es ++ get_or es i d ∷ []
taken i [] d h = absurd (omega arith)
taken zero (e ∷ es) d h = refl
taken (suc i) (e ∷ es) d h = ap (λ l. e ∷ l) (taken i es d (omega arith))

pub goes_on : {A : Type 0} (i : ℕ) (es : List (declared.Edit A)) (e : declared.Edit A) → i < length es → e ≡ get_or es i e → false ≡ overlaps_one (map edit_of (take i es)) (edit_of e)
    → from_place (i + 1) es ≡ from_place i es
goes_on {A} i es e h g p =
    let front : map edit_of (take (suc i) es) ≡ map edit_of (take i es) ++ edit_of e ∷ [] =
    ap (map edit_of) (taken i es e h) ∙ map-append edit_of (take i es) (get_or es i e ∷ []) ∙ ap (λ (x : declared.Edit A). map edit_of (take i es) ++ edit_of x ∷ []) (sym g) in
    let back : map edit_of (drop i es) ≡ edit_of e ∷ map edit_of (drop (suc i) es) =
    ap (map edit_of) (drop-cons es i e h) ∙ ap (λ (x : declared.Edit A). edit_of x ∷ map edit_of (drop (suc i) es)) (sym g) in
    ap (λ k. first_overlap (k + 1) (map edit_of (take k es)) (map edit_of (drop k es))) (add-one i)
    ∙ ap (λ n. first_overlap n (map edit_of (take (suc i) es)) (map edit_of (drop (suc i) es))) (counts i)
    ∙ ap (λ l. first_overlap (suc (i + 1)) l (map edit_of (drop (suc i) es))) front
    ∙ sym (passed (i + 1) (map edit_of (take i es)) (edit_of e) (map edit_of (drop (suc i) es)) (sym p))
    ∙ ap (first_overlap (i + 1) (map edit_of (take i es))) (sym back)
  where
    counts : (n : ℕ) → suc n + 1 ≡ suc (n + 1)
    counts n = omega arith
