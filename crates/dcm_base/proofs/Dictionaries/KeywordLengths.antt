-- The lengths of keywords.
use Rattle.std.proofs.Common.{◌≡◌, ◌≤◌, refl, subst, Bool, true, false, cond, List, [], ◌∷◌, ℕ, length, Option, Some, None, sym}
use Rattle.std.specs.Prelude.{option_map, find, nat_le, ◌==◌}
use Rattle.std.specs.List.{list_all}
use Rattle.std.proofs.lemmas.Bool.{leb-true}
use Rattle.dcm_lemmas.proofs.Truth.{and_first, and_second}
use Rattle.dcm_base.specs.declared.tag.Tag.{Tag}
use Rattle.dcm_base.specs.declared.vr.Vr.{Vr}
use Rattle.dcm_base.specs.Tables.Tag.{tag_number}
use Rattle.dcm_base.specs.Tables.Dictionary.{Element, elements, elements_in, element_in, entries, keywords, ambiguous, ambiguous_in, signed_vr, numbered}
use Rattle.dcm_base.specs.declared.dictionary.Dictionary.{Dictionary}
use Rattle.dcm_base.specs.declared.dictionary.Dictionary.TheVariants.{Extract, Standard, Signed}
use Rattle.dcm_base.proofs.Dictionaries.Lines.{standard_keywords, standard_has}

pub found_has : (p q : Element → Bool) (l : List Element) (e : Element) → list_all q l ≡ true → find p l ≡ Some e → q e ≡ true
found_has p q [] e a f = cc
found_has p q (x ∷ l) e a f = by_test (p x) f (found_has p q l e (and_second (q x) _ a))
  where
    by_test : (t : Bool) → cond t (Some x) (find p l) ≡ Some e → (find p l ≡ Some e → q e ≡ true) → q e ≡ true
    by_test true g more = let same : x ≡ e = cc in subst (λ y. q y ≡ true) same (and_first _ _ a)
    by_test false g more = more g

fits : List ℕ → Bool
fits keyword = nat_le (length keyword) 64

extract_fits : list_all (λ (e : Element). fits e.2) elements ≡ true
unfolding elements fits
extract_fits = refl

standard_fits : list_all fits standard_keywords ≡ true
unfolding entries keywords fits
standard_fits = refl

all_fit : (d : Dictionary) → list_all (λ (e : Element). fits e.2) (elements_in d) ≡ true
unfolding elements_in
all_fit Extract = extract_fits
all_fit Standard = standard_has fits standard_fits
all_fit Signed = standard_has fits standard_fits

ambiguous_fit : list_all (λ (e : Element). fits e.2) ambiguous ≡ true
unfolding ambiguous fits
ambiguous_fit = refl

-- of a row that is found
row_fits : (es : List Element) → list_all (λ (e : Element). fits e.2) es ≡ true → (n : ℕ) (entry : Vr × List ℕ) → Some entry ≡ numbered es n → length entry.1 ≤ 64
unfolding fits
row_fits es all n entry is = by_row (find (λ (e : Element). e.0 == n) es) refl is
  where
    by_row : (o : Option Element) → find (λ (e : Element). e.0 == n) es ≡ o → Some entry ≡ option_map (λ (e : Element). (e.1, e.2)) o → length entry.1 ≤ 64
    by_row (Some e) p is =
        let fit : fits e.2 ≡ true = found_has (λ x. x.0 == n) (λ x. fits x.2) es e all p in
        let same : entry ≡ (e.1, e.2) = cc in
        subst (λ (x : Vr × List ℕ). length x.1 ≤ 64) (sym same) (leb-true (length e.2) 64 fit)
    by_row None p is = cc

-- of an element of a dictionary
pub keyword_fits : (d : Dictionary) (t : Tag) (entry : Vr × List ℕ) → Some entry ≡ element_in d t → length entry.1 ≤ 64
unfolding element_in
keyword_fits d t entry is = row_fits (elements_in d) (all_fit d) (tag_number t) entry is

-- of an element between two representations
pub ambiguous_fits : (d : Dictionary) (t : Tag) (entry : Vr × List ℕ) → Some entry ≡ ambiguous_in d t → length entry.1 ≤ 64
ambiguous_fits Extract t entry is = cc
ambiguous_fits Standard t entry is = row_fits ambiguous ambiguous_fit (tag_number t) entry is
ambiguous_fits Signed t entry is = by_row (numbered ambiguous (tag_number t)) refl is
  where
    by_row : (o : Option (Vr × List ℕ)) → o ≡ numbered ambiguous (tag_number t) → Some entry ≡ option_map (λ (e : Vr × List ℕ). (signed_vr e.0, e.1)) o → length entry.1 ≤ 64
    by_row (Some e) p is =
        let same : entry ≡ (signed_vr e.0, e.1) = cc in
        subst (λ (x : Vr × List ℕ). length x.1 ≤ 64) (sym same) (row_fits ambiguous ambiguous_fit (tag_number t) e p)
    by_row None p is = cc
