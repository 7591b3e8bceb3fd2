-- How many edits words mean.
use Rattle.std.proofs.Common.{◌≡◌, ℕ, suc, ◌≤◌, ◌-◌, List, [], ◌∷◌, length, Option, Some, None, Result, Ok, Err, Bool, true, false, refl, ap, arith}
use Rattle.std.specs.Prelude.{if◌then◌else◌, nat_lt}
use Rattle.std.proofs.lemmas.Bool.Decides.{nat_tests}
use Rattle.dcm_base.specs.declared.dictionary.Dictionary.{Dictionary}
use Rattle.dcm_base.specs.declared.fault.EditRefusal.{EditRefusal}
use Rattle.dcm_base.specs.declared.fault.EditRefusal.TheVariants.{BadOption, Overlap, TooMany}
use Rattle.dcm_edits.specs.Edit.{Edit, erase_private}
use Rattle.dcm_edits.specs.EditWords.{InEdit, OptionWord, private_word, takes_word, unknown_word, option_word, meant_word, meant_from, meant_edits_in, without_settings, apart, and_then, at_edit, in_edit, EDIT_LIMIT}
use Rattle.dcm_edits.specs.Overlap.{first_overlap}
use Rattle.dcm_edits.proofs.Words.EditWordLemmas.{ok_is, in_turn}

-- the edits are those of the words, where none overlaps an earlier one
by_overlap : (o : Option ℕ) (fs es : List Edit) → (let s : Result (List Edit) InEdit = elim o [ None ↦ Ok fs | Some n ↦ Err (in_edit Overlap n) ] in s ≡ Ok es) → fs ≡ es
by_overlap None fs es q = ok_is fs es q
by_overlap (Some n) fs es q = cc

by_words : (r : Result (List Edit) InEdit) (es : List Edit) → (let s : Result (List Edit) InEdit = elim r [ Ok fs ↦ apart fs | Err u ↦ Err u ] in s ≡ Ok es) → r ≡ Ok es
by_words (Ok fs) es q = ap Ok (by_overlap (first_overlap 1 [] fs) fs es q)
by_words (Err u) es q = cc

-- ---- how many there are

then_few : (n : ℕ) (e : Edit) (r : Result (List Edit) InEdit) (es : List Edit) → n ≤ EDIT_LIMIT → ((fs : List Edit) → r ≡ Ok fs → length fs ≤ 65 - suc n) → and_then e r ≡ Ok es → length es ≤ 65 - n
then_few n e (Ok fs) es l h q = let b = h fs refl in let c : suc (length fs) ≡ length es = ap length (ok_is _ _ q) in omega arith
then_few n e (Err u) es l h q = cc

word_few : (n : ℕ) (r : Result Edit EditRefusal) (more : Result (List Edit) InEdit) (es : List Edit) → n ≤ EDIT_LIMIT
    → ((fs : List Edit) → more ≡ Ok fs → length fs ≤ 65 - suc n) → (let s : Result (List Edit) InEdit = elim (at_edit n r) [ Ok e ↦ and_then e more | Err u ↦ Err u ] in s ≡ Ok es) → length es ≤ 65 - n
word_few n (Ok e) more es l h q = then_few n e more es l h q
word_few n (Err u) more es l h q = cc

one_few : (o : OptionWord) (n : ℕ) (es : List Edit) → n ≤ EDIT_LIMIT
    → (let s : Result (List Edit) InEdit = elim o [ private_word ↦ Ok (erase_private ∷ []) | takes_word kind ↦ Err (in_edit BadOption n) | unknown_word ↦ Err (in_edit BadOption n) ] in s ≡ Ok es) → length es ≤ 65 - n
one_few private_word n es l q = let c : 1 ≡ length es = ap length (ok_is _ _ q) in omega arith
one_few (takes_word kind) n es l q = cc
one_few unknown_word n es l q = cc

two_few : (d : Dictionary) (o : OptionWord) (n : ℕ) (v : List ℕ) (skip more : Result (List Edit) InEdit) (es : List Edit) → n ≤ EDIT_LIMIT
    → ((fs : List Edit) → skip ≡ Ok fs → length fs ≤ 65 - suc n) → ((fs : List Edit) → more ≡ Ok fs → length fs ≤ 65 - suc n)
    → (let s : Result (List Edit) InEdit = elim o [
      | private_word ↦ and_then erase_private skip
      | takes_word kind ↦ elim (at_edit n (meant_word d kind v)) [ Ok e ↦ and_then e more | Err u ↦ Err u ]
      | unknown_word ↦ Err (in_edit BadOption n)
    ] in s ≡ Ok es) → length es ≤ 65 - n
two_few d private_word n v skip more es l g h q = then_few n erase_private skip es l g q
two_few d (takes_word kind) n v skip more es l g h q = word_few n (meant_word d kind v) more es l h q
two_few d unknown_word n v skip more es l g h q = cc

not_past : (t : Bool) (u : InEdit) (r : Result (List Edit) InEdit) (es : List Edit) → (if t then Err u else r) ≡ Ok es → t ≡ false
not_past true u r es q = cc
not_past false u r es q = refl

at_most : (n : ℕ) → nat_lt EDIT_LIMIT n ≡ false → n ≤ EDIT_LIMIT
at_most n p = grind (arith, nat_tests)

few_from : (d : Dictionary) (n : ℕ) (words : List (List ℕ)) (es : List Edit) → meant_from d n words ≡ Ok es → length es ≤ 65 - n
few_from d n [] es q = let c : 0 ≡ length es = ap length (ok_is _ _ q) in omega arith
few_from d n (w ∷ []) es q =
    one_few (option_word w) n es (at_most n (not_past (nat_lt EDIT_LIMIT n) (in_edit TooMany n) _ es q)) (in_turn (nat_lt EDIT_LIMIT n) (in_edit TooMany n) _ es q)
few_from d n (w ∷ v ∷ words) es q =
    two_few d (option_word w) n v _ _ es (at_most n (not_past (nat_lt EDIT_LIMIT n) (in_edit TooMany n) _ es q)) (few_from d (suc n) (v ∷ words)) (few_from d (suc n) words)
    (in_turn (nat_lt EDIT_LIMIT n) (in_edit TooMany n) _ es q)

pub few : (d : Dictionary) (words : List (List ℕ)) (es : List Edit) → meant_edits_in d words ≡ Ok es → length es ≤ 64
few d words es q = let edit_words = without_settings words in few_from d 1 edit_words es (by_words (meant_from d 1 edit_words) es q)
