-- What a binary search finds among the entries of the standard, whose numbers ascend, and what their keywords are.
use Rattle.std.proofs.Common.{◌≡◌, ℕ, ◌<◌, ◌≤◌, Bool, true, false, ◌==◌, if◌then◌else◌, List, [], ◌∷◌, length, map, get_or, Option, Some, None, option_map, refl, ◌∙◌, sym, ap, subst, arith}
use Rattle.std.specs.List.{HoldsAt, find, list_all}
use Rattle.std.specs.List.Sorted.{IsStrictlyIncreasing, IsNonDecreasingBy, IsPartitionPoint}
use Rattle.std.specs.Ordering.{nat_cmp, ordering_index}
use Rattle.std.specs.declared.cmp.Ordering.TheVariants.{Less, Equal, Greater}
use Rattle.std.proofs.lemmas.Bool.Decides.{nat_tests}
use Rattle.std.proofs.lemmas.Cmp.{ranked}
use Rattle.std.proofs.lemmas.List.{get_or-map, length-map}
use Rattle.std.proofs.lemmas.List.Kept.{AllPairs-from_increasing}
use Rattle.std.proofs.lemmas.List.Recursion.{found_at, found_nowhere}
use Rattle.dcm_lemmas.proofs.Truth.{and_first, and_second}
use Rattle.dcm_base.specs.declared.vr.Vr.{Vr}
use Rattle.dcm_base.specs.declared.vr.Vr.TheVariants.{AE}
use Rattle.dcm_base.specs.declared.dictionary.Dictionary.{Dictionary}
use Rattle.dcm_base.specs.declared.dictionary.Dictionary.TheVariants.{Extract, Standard, Signed}
use Rattle.dcm_base.specs.Tables.Dictionary.{Element, Entry, entries, keywords, keyword_of, element_of, elements_in, entry_of, fits, AllFit, numbered}
use Rattle.dcm_base.proofs.Dictionaries.ByNumber.{ascend, increasing, numbers_ascend}

abbrev no_entry : Entry
no_entry = (0, AE, 0, 0)

-- the numbers of the table ascend
entry_numbers_ascend : ascend (map (λ e. e.0) entries) ≡ true
unfolding entries
entry_numbers_ascend = refl

pub entries_ascend : (es : List Entry) → es ≡ entries → IsStrictlyIncreasing (map (λ e. e.0) es)
entries_ascend es is = subst (λ es. IsStrictlyIncreasing (map (λ e. e.0) es)) (sym is) (increasing _ entry_numbers_ascend)

-- each keyword of the table lies within the text
entries_fit : AllFit keywords entries
unfolding entries keywords
entries_fit = refl

pub all_fit : (text : List ℕ) (es : List Entry) → text ≡ keywords → es ≡ entries → AllFit text es
all_fit text es here is = subst (λ es. AllFit text es) (sym is) (subst (λ text. AllFit text entries) (sym here) entries_fit)

pub first_fits : (text : List ℕ) (e : Entry) (es : List Entry) → AllFit text (e ∷ es) → fits text e ≡ true
first_fits text e es all = and_first _ _ all

pub rest_fit : (text : List ℕ) (e : Entry) (es : List Entry) → AllFit text (e ∷ es) → AllFit text es
rest_fit text e es all = and_second _ _ all

-- what is found passes what all pass
found_here : (test passes : Entry → Bool) (b : Bool) (e f : Entry) (rest : Option Entry) → passes e ≡ true → (rest ≡ Some f → passes f ≡ true) → (if b then Some e else rest) ≡ Some f → passes f ≡ true
found_here test passes true e f rest p q is = cc
found_here test passes false e f rest p q is = q is

pub found_passes : (test passes : Entry → Bool) (es : List Entry) (f : Entry) → list_all passes es ≡ true → find test es ≡ Some f → passes f ≡ true
found_passes test passes [] f all is = cc
found_passes test passes (e ∷ es) f all is = found_here test passes (test e) e f (find test es) (and_first _ _ all) (found_passes test passes es f (and_second _ _ all)) is

-- an element is found as its entry is
module _ (text : List ℕ) (n : ℕ) where
  abbrev pub answer_of : Entry → Vr × List ℕ
  answer_of e = (e.1, keyword_of text e)

  one_more : (b : Bool) (e : Entry) (here : Option Element) (there : Option Entry) → option_map (λ e. (e.1, e.2)) here ≡ option_map answer_of there → option_map (λ e. (e.1, e.2)) (if b then Some (element_of text e) else here) ≡ option_map answer_of (if b then Some e else there)
  one_more true e here there p = refl
  one_more false e here there p = p

  pub numbered_entries : (es : List Entry) → numbered (map (element_of text) es) n ≡ option_map answer_of (entry_of es n)
  numbered_entries [] = refl
  numbered_entries (e ∷ es) = one_more (e.0 == n) e _ (entry_of es n) (numbered_entries es)

module _ (n : ℕ) where
  abbrev has_number : Entry → Bool
  has_number e = e.0 == n

  abbrev look_up : List Entry → Option Entry
  look_up es = entry_of es n

  looks_on : (e : Entry) (es : List Entry) → look_up (e ∷ es) ≡ (if has_number e then Some e else look_up es)
  looks_on e es = refl

  module _ (es : List Entry) (up : IsStrictlyIncreasing (map (λ e. e.0) es)) where
    -- an earlier entry has a smaller number
    earlier : (i j : ℕ) (d : Entry) → i < j → j < length es → (get_or es i d).0 < (get_or es j d).0
    earlier i j d lt within =
        let long : length (map (λ e. e.0) es) ≡ length es = length-map es (λ e. e.0) in
        omega (arith, AllPairs-from_increasing _ up i j 0 lt (omega arith), get_or-map (λ (e : Entry). e.0) es i d 0 (omega arith), get_or-map (λ (e : Entry). e.0) es j d 0 within)

    -- an entry that has the number is the first that has it
    pub found_at_place : (i : ℕ) (d : Entry) → i < length es → (get_or es i d).0 ≡ n → look_up es ≡ Some (get_or es i d)
    found_at_place i d within same =
        let none_before : (k : ℕ) → k < i → has_number (get_or es k d) ≡ false = λ k lt. let less = earlier k i d lt within in grind (arith, nat_tests) in
        found_at look_up has_number (λ e. Some e) None refl looks_on es i d within none_before (grind (arith, nat_tests))

    -- so is one that a search finds
    pub found : (i : ℕ) (d : Entry) → i < length es → HoldsAt (λ (e : Entry). nat_cmp e.0 n ≡ Equal) es i → look_up es ≡ Some (get_or es i d)
    found i d within here = found_at_place i d within (ranked _ n _ (sym (here d)))

    -- the comparisons with the number rise along the entries, as a binary search asks
    comparisons_rise : IsNonDecreasingBy (λ (e : Entry). ordering_index (nat_cmp e.0 n)) es
    comparisons_rise i j d le within =
        let rise : (get_or es i d).0 ≤ (get_or es j d).0 = grind (arith, earlier i j d, λ (same : i ≡ j). ap (λ k. (get_or es k d).0) same) in
        grind (arith, nat_tests)

    -- between smaller numbers and greater ones no entry has the number
    in_gap : (i : ℕ) → IsPartitionPoint (λ (e : Entry). nat_cmp e.0 n ≡ Less) (λ (e : Entry). nat_cmp e.0 n ≡ Greater) es i → (k : ℕ) → k < length es → has_number (get_or es k no_entry) ≡ false
    in_gap i gap k within =
        let below : k < i → (get_or es k no_entry).0 < n = λ lt. ranked _ n _ (sym (gap.0 k no_entry (omega arith) lt)) in
        let above : i ≤ k → n < (get_or es k no_entry).0 = λ le. ranked _ n _ (sym (gap.1 k no_entry le within)) in
        grind (arith, nat_tests)

    -- where the search ends between two entries, none has the number
    pub missed : (i : ℕ) → (IsNonDecreasingBy (λ (e : Entry). ordering_index (nat_cmp e.0 n)) es → IsPartitionPoint (λ (e : Entry). nat_cmp e.0 n ≡ Less) (λ (e : Entry). nat_cmp e.0 n ≡ Greater) es i) → look_up es ≡ None
    missed i parted = found_nowhere look_up has_number (λ e. Some e) None refl looks_on es no_entry (in_gap i (parted comparisons_rise))

-- an element of the standard is found as its entry is
pub element_is : (text : List ℕ) (es : List Entry) (n : ℕ) (o : Option Entry) → text ≡ keywords → es ≡ entries → o ≡ entry_of es n → option_map (answer_of text n) o ≡ numbered (elements_in Standard) n
unfolding elements_in
element_is text es n o here is found =
    ap (option_map (answer_of text n)) found ∙ sym (numbered_entries text n es)
    ∙ ap (λ t. numbered (map (element_of t) es) n) here
    ∙ ap (λ es. numbered (map (element_of keywords) es) n) is

same_numbers : (text : List ℕ) (es : List Entry) → map (λ e. e.0) es ≡ map (λ e. e.0) (map (element_of text) es)
same_numbers text [] = refl
same_numbers text (e ∷ es) = ap (λ ns. e.0 ∷ ns) (same_numbers text es)

-- the numbers of a dictionary's elements ascend
pub elements_ascend : (d : Dictionary) → IsStrictlyIncreasing (map (λ e. e.0) (elements_in d))
unfolding elements_in
elements_ascend Extract = increasing _ numbers_ascend
elements_ascend Standard = subst IsStrictlyIncreasing (same_numbers keywords entries) (increasing _ entry_numbers_ascend)
elements_ascend Signed = subst IsStrictlyIncreasing (same_numbers keywords entries) (increasing _ entry_numbers_ascend)
