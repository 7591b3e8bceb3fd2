-- The keywords of the standard, cut from their text one after another: they are its lines.
use Rattle.std.proofs.Common.{◌≡◌, ℕ, ◌+◌, ◌-◌, ◌≤◌, Bool, true, ◌&&◌, nat_le, List, [], ◌∷◌, ◌++◌, flat_map, map, take, drop, refl, ◌∙◌, sym, ap, ap₂, arith, drop-drop}
use Rattle.std.specs.Prelude.{codes, bytes_eq}
use Rattle.std.proofs.lemmas.Slice.Eq.{bytes_eq-Decides}
use Rattle.std.specs.List.{list_all}
use Rattle.dcm_lemmas.proofs.Numbers.{is_within}
use Rattle.dcm_lemmas.proofs.Truth.{and_first, and_second}
use Rattle.dcm_base.specs.Tables.Dictionary.{Element, Entry, entries, keywords, keyword_of, element_of, elements_in}
use Rattle.dcm_base.specs.Laws.{is_line, as_line}
use Rattle.dcm_base.specs.declared.dictionary.Dictionary.TheVariants.{Standard}

-- the keywords of entries whose keywords follow one another, cut from the text from a place on
abbrev pub cut : ℕ → List Entry → List ℕ → List (List ℕ)
cut at [] text = []
cut at (e ∷ es) text = let rest = drop (e.2 - at) text in take e.3 rest ∷ cut e.2 es rest

abbrev rises : ℕ → List Entry → Bool
rises at [] = true
rises at (e ∷ es) = nat_le at e.2 && rises e.2 es

on_to : (text : List ℕ) (at to : ℕ) → at ≤ to → drop (to - at) (drop at text) ≡ drop to text
on_to text at to le = let sum : at + (to - at) ≡ to = omega arith in drop-drop (to - at) at text ∙ ap (λ n. drop n text) sum

same_piece : (start size : ℕ) (text rest : List ℕ) → rest ≡ drop start text → take size rest ≡ take (start + size - start) (drop start text)
same_piece start size text rest is = let same : size ≡ start + size - start = omega arith in ap₂ (λ n r. take n r) same is

pub cut_is : (text : List ℕ) (at : ℕ) (es : List Entry) → rises at es ≡ true → cut at es (drop at text) ≡ map (keyword_of text) es
cut_is text at [] p = refl
cut_is text at (e ∷ es) p =
    let here = on_to text at e.2 (is_within _ _ (and_first _ _ p)) in
    ap₂ (λ k ks. k ∷ ks) (same_piece e.2 e.3 text _ here) (ap (cut e.2 es) here ∙ cut_is text e.2 es (and_second _ _ p))

pub keywords_rise : rises 0 entries ≡ true
unfolding entries
keywords_rise = refl

-- the keywords of the standard
abbrev pub standard_keywords : List (List ℕ)
standard_keywords = cut 0 entries keywords

pub standard_keywords_are : standard_keywords ≡ map (keyword_of keywords) entries
standard_keywords_are = cut_is keywords 0 entries keywords_rise

-- a test, so that a wrong row is refused at once
joined_test : bytes_eq (flat_map (λ k. k ++ codes "\n") standard_keywords) keywords ≡ true
unfolding entries keywords
joined_test = refl

joined : flat_map (λ k. k ++ codes "\n") standard_keywords ≡ keywords
joined = (bytes_eq-Decides _ _).0 joined_test

unbroken : list_all is_line standard_keywords ≡ true
unfolding entries keywords
unbroken = refl

each_line : (text : List ℕ) (es : List Entry) → flat_map (λ k. k ++ codes "\n") (map (keyword_of text) es) ≡ flat_map as_line (map (element_of text) es)
each_line text [] = refl
each_line text (e ∷ es) = ap (λ ls. (keyword_of text e ++ codes "\n") ++ ls) (each_line text es)

each_has : (q : List ℕ → Bool) (text : List ℕ) (es : List Entry) → list_all q (map (keyword_of text) es) ≡ list_all (λ (e : Element). q e.2) (map (element_of text) es)
each_has q text [] = refl
each_has q text (e ∷ es) = ap (λ b. q (keyword_of text e) && b) (each_has q text es)

-- what each keyword has, that of each element has
pub standard_has : (q : List ℕ → Bool) → list_all q standard_keywords ≡ true → list_all (λ (e : Element). q e.2) (elements_in Standard) ≡ true
unfolding elements_in
standard_has q all = sym (each_has q keywords entries) ∙ ap (list_all q) (sym standard_keywords_are) ∙ all

-- the text is the keywords, a line each
pub keywords_are_lines : flat_map as_line (elements_in Standard) ≡ keywords
unfolding elements_in
keywords_are_lines = sym (each_line keywords entries) ∙ ap (flat_map (λ k. k ++ codes "\n")) (sym standard_keywords_are) ∙ joined

-- and no keyword has a line feed
pub keywords_are_unbroken : list_all (λ (e : Element). is_line e.2) (elements_in Standard) ≡ true
keywords_are_unbroken = standard_has is_line unbroken
