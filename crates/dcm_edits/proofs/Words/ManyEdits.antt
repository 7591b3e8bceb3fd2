-- The edits of words, one after another.
use Rattle.std.proofs.Common.{◌≡◌, ℕ, zero, suc, ◌<◌, ◌≤◌, ◌+◌, List, [], ◌∷◌, ◌++◌, length, drop, get_or, Option, Some, None, Result, Ok, Err, Bool, true, false, refl, sym, ◌∙◌, ap, arith, Bor, length-append}
use Rattle.std.specs.Prelude.{nat_lt, if◌then◌else◌}
use Rattle.std.specs.Option.{is_some}
use Rattle.std.proofs.lemmas.Bool.Decides.{nat_tests}
use Rattle.dcm_base.specs.declared.dictionary.Dictionary.{Dictionary}
use Rattle.dcm_base.specs.declared.fault.EditRefusal.{EditRefusal}
use Rattle.dcm_base.specs.declared.fault.EditRefusal.TheVariants.{BadOption, TooMany, Overlap}
use Rattle.dcm_edits.specs.declared.fault.EditFault.{EditFault}
use Rattle.dcm_edits.specs.declared.fault.EditFault.TheVariants.{Refused, Memory}
use Rattle.dcm_edits.specs.Edit.{Edit, erase_private}
use Rattle.dcm_edits.specs.EditWords.{◌>>=◌, InEdit, OptionWord, private_word, takes_word, unknown_word, option_word, meant_word, without_settings, is_setting, meant_from, and_then, at_edit, in_edit, apart, EDIT_LIMIT}
use Rattle.dcm_edits.specs.Making.{edit_after, first_edit, after_edits, texts, MakesFrom, MakesAll}
use Rattle.dcm_edits.specs.Meaning.{AreMeant}
use Rattle.dcm_edits.specs.Overlap.{first_overlap}
use Rattle.dcm_edits.proofs.Words.EditWordLemmas.{ok_is}
use Rattle.dcm_edits.proofs.Words.SettingWords.{with_kept, left_out_at, first_kept_at, some_kept_at}

abbrev pub First : Type 0
First = Edit × List (List ℕ)

-- what the first edit leads to
abbrev leads_to : Dictionary → ℕ → Result First EditRefusal → Result (List Edit) InEdit
leads_to d n (Ok r) = and_then r.0 (meant_from d (suc n) r.1)
leads_to d n (Err u) = Err (in_edit u n)

abbrev one_word : OptionWord → ℕ → Result (List Edit) InEdit
one_word o n = elim o [ private_word ↦ Ok (erase_private ∷ []) | takes_word kind ↦ Err (in_edit BadOption n) | unknown_word ↦ Err (in_edit BadOption n) ]

abbrev more_words : Dictionary → OptionWord → ℕ → List ℕ → List (List ℕ) → Result (List Edit) InEdit
more_words d o n v words = elim o [
  | private_word ↦ and_then erase_private (meant_from d (suc n) (v ∷ words))
  | takes_word kind ↦ elim (at_edit n (meant_word d kind v)) [ Ok e ↦ and_then e (meant_from d (suc n) words) | Err u ↦ Err u ]
  | unknown_word ↦ Err (in_edit BadOption n)
]

one_leads : (d : Dictionary) (o : OptionWord) (n : ℕ) → one_word o n ≡ leads_to d n (edit_after d o [])
one_leads d private_word n = refl
one_leads d (takes_word kind) n = refl
one_leads d unknown_word n = refl

word_leads : (d : Dictionary) (r : Result Edit EditRefusal) (n : ℕ) (words : List (List ℕ))
    → (let s : Result (List Edit) InEdit = elim (at_edit n r) [ Ok e ↦ and_then e (meant_from d (suc n) words) | Err u ↦ Err u ] in s ≡ leads_to d n (r >>= λ e. Ok (e, words)))
word_leads d (Ok e) n words = refl
word_leads d (Err u) n words = refl

more_lead : (d : Dictionary) (o : OptionWord) (n : ℕ) (v : List ℕ) (words : List (List ℕ)) → more_words d o n v words ≡ leads_to d n (edit_after d o (v ∷ words))
more_lead d private_word n v words = refl
more_lead d (takes_word kind) n v words = word_leads d (meant_word d kind v) n words
more_lead d unknown_word n v words = refl

in_turn : (t : Bool) (u : InEdit) (r : Result (List Edit) InEdit) → t ≡ false → (if t then Err u else r) ≡ r
in_turn true u r p = cc
in_turn false u r p = refl

out_of_turn : (t : Bool) (u : InEdit) (r : Result (List Edit) InEdit) → t ≡ true → (if t then Err u else r) ≡ Err u
out_of_turn true u r p = refl
out_of_turn false u r p = cc

goes : (d : Dictionary) (n : ℕ) (ws : List (List ℕ)) → nat_lt EDIT_LIMIT n ≡ false → 0 < length ws → meant_from d n ws ≡ leads_to d n (first_edit d ws)
goes d n [] p h = absurd (omega arith)
goes d n (w ∷ []) p h = in_turn (nat_lt EDIT_LIMIT n) (in_edit TooMany n) (one_word (option_word w) n) p ∙ one_leads d (option_word w) n
goes d n (w ∷ v ∷ words) p h = in_turn (nat_lt EDIT_LIMIT n) (in_edit TooMany n) (more_words d (option_word w) n v words) p ∙ more_lead d (option_word w) n v words

stops : (d : Dictionary) (n : ℕ) (ws : List (List ℕ)) → nat_lt EDIT_LIMIT n ≡ true → 0 < length ws → meant_from d n ws ≡ Err (in_edit TooMany n)
stops d n [] p h = absurd (omega arith)
stops d n (w ∷ []) p h = out_of_turn (nat_lt EDIT_LIMIT n) (in_edit TooMany n) (one_word (option_word w) n) p
stops d n (w ∷ v ∷ words) p h = out_of_turn (nat_lt EDIT_LIMIT n) (in_edit TooMany n) (more_words d (option_word w) n v words) p

-- ---- edits before those to come

after_more : (es : List Edit) (e : Edit) (r : Result (List Edit) InEdit) → after_edits (es ++ e ∷ []) r ≡ after_edits es (and_then e r)
after_more [] e r = refl
after_more (x ∷ es) e r = ap (and_then x) (after_more es e r)

after_err : (es : List Edit) (u : InEdit) → after_edits es (Err u) ≡ Err u
after_err [] u = refl
after_err (x ∷ es) u = ap (and_then x) (after_err es u)

after_none : (es : List Edit) → after_edits es (Ok []) ≡ Ok es
after_none [] = refl
after_none (x ∷ es) = ap (and_then x) (after_none es)

-- ---- words that are left

none_left : (k : ℕ) (ws : List (Bor (List ℕ))) → length ws ≤ k → texts (drop k ws) ≡ []
none_left zero [] h = refl
none_left zero (w ∷ ws) h = absurd (omega arith)
none_left (suc k) [] h = refl
none_left (suc k) (w ∷ ws) h = none_left k ws (omega arith)

within : (n : ℕ) → n ≤ EDIT_LIMIT → nat_lt EDIT_LIMIT n ≡ false
within n h = grind (arith, nat_tests)

past : (n : ℕ) → EDIT_LIMIT < n → nat_lt EDIT_LIMIT n ≡ true
past n h = grind (arith, nat_tests)

pub all_done : (d : Dictionary) (es : List Edit) (n k : ℕ) (ws : List (Bor (List ℕ))) → length ws ≤ k → after_edits es (meant_from d n (without_settings (texts (drop k ws)))) ≡ Ok es
all_done d es n k ws h = ap (λ l. after_edits es (meant_from d n (without_settings l))) (none_left k ws h) ∙ after_none es

-- the words from place k on
module _ (d : Dictionary) (es : List Edit) (n k : ℕ) (ws : List (Bor (List ℕ))) (b : Bor (List ℕ)) (h : k < length ws) where
  abbrev so_far : Result (List Edit) InEdit
  so_far = after_edits es (meant_from d n (without_settings (texts (drop k ws))))

  pub passed : is_setting (get_or ws k b).now ≡ true → so_far ≡ after_edits es (meant_from d n (without_settings (texts (drop (k + 1) ws))))
  passed p = ap (λ l. after_edits es (meant_from d n l)) (left_out_at k ws b h p)

  module _ (p : is_setting (get_or ws k b).now ≡ false) where
    pub too_many : EDIT_LIMIT < n → so_far ≡ Err (in_edit TooMany n)
    too_many m = ap (after_edits es) (stops d n (without_settings (texts (drop k ws))) (past n m) (some_kept_at k ws b h p)) ∙ after_err es (in_edit TooMany n)

    first_leads : (r : Result First EditRefusal) → n ≤ EDIT_LIMIT → first_edit d (texts (drop k ws)) ≡ r → so_far ≡ after_edits es (leads_to d n (r >>= with_kept))
    first_leads r m q =
        ap (after_edits es)
        (goes d n (without_settings (texts (drop k ws))) (within n m) (some_kept_at k ws b h p) ∙ ap (leads_to d n) (first_kept_at d k ws b h p ∙ ap (λ x. x >>= with_kept) q))

    pub one_edit : (e : Edit) (rest : List (List ℕ)) → n ≤ EDIT_LIMIT → first_edit d (texts (drop k ws)) ≡ Ok (e, rest) → so_far ≡ after_edits (es ++ e ∷ []) (meant_from d (suc n) (without_settings rest))
    one_edit e rest m q = first_leads (Ok (e, rest)) m q ∙ sym (after_more es e (meant_from d (suc n) (without_settings rest)))

    refused : (u : EditRefusal) → n ≤ EDIT_LIMIT → first_edit d (texts (drop k ws)) ≡ Err u → so_far ≡ Err (in_edit u n)
    refused u m q = first_leads (Err u) m q ∙ after_err es (in_edit u n)

    pub failed : {A B : Type 0} (f : A → First) (g : B → List Edit) (fault : EditFault) → n ≤ EDIT_LIMIT → MakesFrom f n (Err fault) (first_edit d (texts (drop k ws))) → MakesAll g (Err fault) so_far
    failed f g (Refused u m) l q = refused u l q.0 ∙ ap (λ x. Err (in_edit u x)) (sym q.1)
    failed f g Memory l q = tt

pub one_longer : {A : Type 0} (xs : List A) (x : A) → suc (length xs + 1) ≡ length (xs ++ x ∷ []) + 1
one_longer xs x = omega (arith, length-append xs (x ∷ []))

pub longer : {A : Type 0} (xs : List A) (x : A) (ys : List A) → ys ≡ xs ++ x ∷ [] → length xs + 1 ≤ EDIT_LIMIT → length ys ≤ EDIT_LIMIT
longer xs x ys e h = let l = ap length e in omega (arith, length-append xs (x ∷ []))

-- the edits mean themselves where none overlaps an earlier one
not_overlapping : (es : List Edit) (o : Option ℕ) → o ≡ None → (let s : Result (List Edit) InEdit = elim o [ None ↦ Ok es | Some n ↦ Err (in_edit Overlap n) ] in s ≡ Ok es)
not_overlapping es None p = refl
not_overlapping es (Some n) p = cc

edits_are : (ws : List (List ℕ)) (es : List Edit) (r : Result (List Edit) InEdit) → r ≡ Ok es → first_overlap 1 [] es ≡ None
    → (let s : Result (List Edit) InEdit = elim r [ Ok fs ↦ apart fs | Err u ↦ Err u ] in s ≡ Ok es)
edits_are ws es (Ok fs) p q = let e : fs ≡ es = ok_is fs es p in ap apart e ∙ not_overlapping es (first_overlap 1 [] es) q
edits_are ws es (Err u) p q = cc

pub are_meant : (d : Dictionary) (ws : List (List ℕ)) (es : List Edit) → meant_from d 1 (without_settings ws) ≡ Ok es → None ≡ first_overlap 1 [] es → AreMeant es
are_meant d ws es p q = record { dictionary = d; words = ws; mean = edits_are (without_settings ws) es (meant_from d 1 (without_settings ws)) p (sym q) }
