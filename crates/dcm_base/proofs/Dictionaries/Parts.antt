-- The extract is a part of the standard, and no element of either is of an odd group.
use Rattle.std.proofs.Common.{◌≡◌, ℕ, Bool, true, false, ◌&&◌, ◌==◌, if◌then◌else◌, List, [], ◌∷◌, map, Option, Some, refl, ◌∙◌, sym, ap, subst, eqb-true}
use Rattle.std.specs.Prelude.{find, option_map}
use Rattle.std.specs.List.{list_all}
use Rattle.dcm_lemmas.proofs.Lists.{heads_alike, tails_alike}
use Rattle.dcm_base.specs.declared.vr.Vr.{Vr}
use Rattle.dcm_base.specs.declared.tag.Tag.{Tag}
use Rattle.dcm_base.specs.declared.dictionary.Dictionary.{Dictionary}
use Rattle.dcm_base.specs.declared.dictionary.Dictionary.TheVariants.{Extract, Standard, Signed}
use Rattle.dcm_base.specs.Tables.Tag.{tag_number}
use Rattle.dcm_base.specs.Tables.Dictionary.{Element, Entry, elements, entries, keywords, keyword_of, element_of, elements_in, element_in, numbered}
use Rattle.dcm_base.specs.Laws.{is_even}
use Rattle.dcm_base.proofs.Dictionaries.Lines.{standard_keywords, standard_keywords_are}

abbrev with_keywords : List Entry → List (List ℕ) → List Element
with_keywords [] ks = []
with_keywords (e ∷ es) [] = []
with_keywords (e ∷ es) (k ∷ ks) = (e.0, e.1, k) ∷ with_keywords es ks

with_own : (text : List ℕ) (es : List Entry) → with_keywords es (map (keyword_of text) es) ≡ map (element_of text) es
with_own text [] = refl
with_own text (e ∷ es) = ap (λ xs. element_of text e ∷ xs) (with_own text es)

standard_elements : with_keywords entries standard_keywords ≡ elements_in Standard
unfolding elements_in
standard_elements = ap (with_keywords entries) standard_keywords_are ∙ with_own keywords entries

-- what a table says of the numbers of other elements
abbrev looked_up : List Element → List Element → List (Option (Vr × List ℕ))
looked_up table es = map (λ x. numbered table x.0) es

abbrev said : Element → Option (Vr × List ℕ)
said x = Some (x.1, x.2)

extract_found : looked_up (with_keywords entries standard_keywords) elements ≡ map said elements
unfolding elements entries keywords
extract_found = refl

module _ (table : List Element) (n : ℕ) (e : Vr × List ℕ) where
  part_step : (b : Bool) (x : Element) (es : List Element) → (b ≡ true → x.0 ≡ n) → numbered table x.0 ≡ said x → (numbered es n ≡ Some e → numbered table n ≡ Some e) → option_map (λ e. (e.1, e.2)) (if b then Some x else find (λ e. e.0 == n) es) ≡ Some e → numbered table n ≡ Some e
  part_step true x es same here later p = subst (λ (m : ℕ). numbered table m ≡ Some e) (same refl) (here ∙ p)
  part_step false x es same here later p = later p

  part : (es : List Element) → looked_up table es ≡ map said es → numbered es n ≡ Some e → numbered table n ≡ Some e
  part [] all p = absurd cc
  part (x ∷ es) all p =
      part_step (x.0 == n) x es (eqb-true x.0 n) (heads_alike _ _ _ _ all) (part es (tails_alike _ _ _ _ all)) p

-- what the extract says of a tag, the standard says of it
pub extract_is_part : (t : Tag) (e : Vr × List ℕ) → element_in Extract t ≡ Some e → element_in Standard t ≡ Some e
unfolding element_in elements_in
extract_is_part t e p =
    part (elements_in Standard) (tag_number t) e elements (subst (λ (table : List Element). looked_up table elements ≡ map said elements) standard_elements extract_found) p

-- no element is of an odd group
entries_even : list_all (λ (e : Entry). is_even e.0) entries ≡ true
unfolding entries
entries_even = refl

even_too : (text : List ℕ) (es : List Entry) → list_all (λ (e : Entry). is_even e.0) es ≡ list_all (λ (e : Element). is_even e.0) (map (element_of text) es)
even_too text [] = refl
even_too text (e ∷ es) = ap (λ b. is_even e.0 && b) (even_too text es)

elements_even : list_all (λ (e : Element). is_even e.0) elements ≡ true
unfolding elements
elements_even = refl

pub groups_are_even : (d : Dictionary) → list_all (λ (e : Element). is_even e.0) (elements_in d) ≡ true
unfolding elements_in
groups_are_even Extract = elements_even
groups_are_even Standard = sym (even_too keywords entries) ∙ entries_even
groups_are_even Signed = sym (even_too keywords entries) ∙ entries_even
