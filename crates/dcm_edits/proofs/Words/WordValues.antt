-- The new values that words name are of no sequences.
use Rattle.std.proofs.Common.{◌≡◌, ◌≤◌, ℕ, suc, List, [], ◌∷◌, length, Option, Some, None, Result, Ok, Err, Bool, true, false, not, ◌&&◌, refl, ◌∙◌, ap, subst, arith}
use Rattle.std.specs.Prelude.{if◌then◌else◌, ◌==◌, nat_lt, unwrap_or}
use Rattle.std.specs.List.{slice_split}
use Rattle.std.specs.Str.{byte}
use Rattle.std.specs.Option.{is_some}
use Rattle.std.proofs.lemmas.Bool.{eqb-true}
use Rattle.dcm_edits.proofs.Words.Forms.{known_count}
use Rattle.dcm_lemmas.proofs.Truth.{and_first, and_second, not_true}
use Rattle.dcm_base.specs.declared.dictionary.Dictionary.{Dictionary}
use Rattle.dcm_base.specs.declared.tag.Tag.{Tag}
use Rattle.dcm_base.specs.declared.vr.Vr.{Vr}
use Rattle.dcm_base.specs.declared.vr.Vr.TheVariants.{SQ}
use Rattle.dcm_base.specs.Tables.Syntax.{Little}
use Rattle.dcm_base.specs.declared.length.Length.TheVariants as length_variants
use Rattle.dcm_base.specs.declared.form.Form.TheVariants.{Value as a_value}
use Rattle.dcm_base.specs.declared.fault.EditRefusal.{EditRefusal}
use Rattle.dcm_base.specs.declared.fault.EditRefusal.TheVariants.{BadOption, SequenceMisused, Overlap, TooMany}
use Rattle.dcm_base.specs.Tables.Representation.{is_sequence}
use Rattle.dcm_base.specs.Bytes.Spelling.{form}
use Rattle.dcm_edits.specs.Edit.{Index, PathEdit, insert, modify, Edit, erase_private}
use Rattle.dcm_edits.specs.Overlap.{first_overlap}
use Rattle.dcm_edits.specs.Bounds.{PathHasValue, HasValue, HaveValues, HasShortIndexes, HaveShortIndexes, depth, AreWithin}
use Rattle.dcm_edits.specs.EditWords.{InEdit, ◌>>=◌, or_refuse, PathPart, Known, known_part, known_parts, parts_of, has_index, leads, ends_in_tag, has_form, is_indexed, uses_sequences, takes_value, Kind, inserts, modifies, erases, modifies_all, erases_all, last_vr, on_steps, step_to, item_or_element, edit_on, value_for, edit_of_known, edit_of_parts, meant_edit, meant_word, meant_from, meant_edits_in, unless_setting, without_settings, takes_next, is_setting, apart, and_then, at_edit, in_edit, OptionWord, takes_word, private_word, unknown_word, option_word, cut_at, EDIT_LIMIT}
use Rattle.dcm_edits.proofs.Words.EditWordLemmas.{bind_ok, ok_is, if_ok, or_refused, in_turn}
use Rattle.dcm_edits.proofs.Words.WordDepths.{edit_depth}
use Rattle.dcm_edits.proofs.Words.WordIndexes.{AllShortKnown, part_index, parts_short, known_short, edit_short}

abbrev pub EndsPlain : List Known → Type 0
EndsPlain [] = (false ≡ true)
EndsPlain (k ∷ []) = (is_indexed k ≡ false)
EndsPlain (k ∷ l ∷ ks) = EndsPlain (l ∷ ks)

form_of : (vr : Vr) → is_sequence vr ≡ false → form Little vr (length_variants.Known 0) ≡ a_value
unfolding form
form_of SQ e = absurd cc
form_of _ e = refl

pub plain_last : (i s : Bool) → i ≡ false → (if i then s else not (true && s)) ≡ true → s ≡ false
plain_last true s p q = absurd cc
plain_last false true p q = absurd cc
plain_last false false p q = refl

step_has : (tag : Tag) (o : Option Index) (edit : PathEdit) → PathHasValue edit → PathHasValue (step_to tag o edit)
step_has tag None edit h = h
step_has tag (Some index) edit h = h

-- a path that ends in a value
steps_have : (at_end : Known → PathEdit) (k : Known) (ks : List Known) → ((x : Known) → is_sequence x.vr ≡ false → PathHasValue (at_end x)) → EndsPlain (k ∷ ks) → uses_sequences true (k ∷ ks) ≡ true → PathHasValue (on_steps at_end k ks)
steps_have at_end k [] h p u = h k (plain_last (is_indexed k) (is_sequence k.vr) p (and_first _ true u))
steps_have at_end k (l ∷ ks) h p u = step_has k.tag k.index (on_steps at_end l ks) (steps_have at_end l ks h p (and_second (if is_indexed k then is_sequence k.vr else not (true && is_sequence k.vr)) _ u))

plain_erase : (tag : Tag) (o : Option Index) → PathHasValue (item_or_element tag o)
plain_erase tag None = tt
plain_erase tag (Some index) = tt

erases_have : (at_end : Known → PathEdit) (k : Known) (ks : List Known) → ((x : Known) → PathHasValue (at_end x)) → PathHasValue (on_steps at_end k ks)
erases_have at_end k [] h = h k
erases_have at_end k (l ∷ ks) h = step_has k.tag k.index (on_steps at_end l ks) (erases_have at_end l ks h)

edit_has : (kind : Kind) (k : Known) (ks : List Known) (value : List ℕ) → EndsPlain (k ∷ ks) → (takes_value kind ≡ true → uses_sequences true (k ∷ ks) ≡ true) → (kind ≡ modifies_all → length (k ∷ ks) ≡ 1)
    → HasValue (edit_on kind k ks value)
edit_has inserts k ks value p u l = steps_have (λ x. insert x.tag x.vr value) k ks (λ x s. form_of x.vr s) p (u refl)
edit_has modifies k ks value p u l = steps_have (λ x. modify x.tag x.vr value) k ks (λ x s. form_of x.vr s) p (u refl)
edit_has erases k ks value p u l = erases_have (λ x. item_or_element x.tag x.index) k ks (λ x. plain_erase x.tag x.index)
edit_has modifies_all k [] value p u l = form_of k.vr (plain_last (is_indexed k) (is_sequence k.vr) p (and_first _ true (u refl)))
edit_has modifies_all k (m ∷ ks) value p u l = absurd (two (length ks) (l refl))
  where
    two : (n : ℕ) → suc (suc n) ≡ 1 → ⊥
    two n e = omega arith
edit_has erases_all k ks value p u l = tt

-- ---- the last part of a path that ends in a tag, and the number of parts

ends_more : (k : Known) (ks : List Known) → EndsPlain ks → EndsPlain (k ∷ ks)
ends_more k [] p = absurd cc
ends_more k (l ∷ ks) p = p

pub parts_end : (d : Dictionary) (ms : List PathPart) (ks : List Known) → known_parts d ms ≡ Ok ks → ends_in_tag ms ≡ true → EndsPlain ks
parts_end d [] ks p e = absurd cc
parts_end d (m ∷ []) ks p e =
    let first = bind_ok (known_part d m.name m.index) (λ k. known_parts d [] >>= λ more. Ok (k ∷ more)) ks p in
    subst (λ (l : List Known). EndsPlain l) (ok_is (first.0 ∷ []) ks first.2) (ap (λ (o : Option Index). is_some o) (part_index d m.name m.index first.0 first.1) ∙ not_true (has_index m) e)
parts_end d (m ∷ n ∷ ms) ks p e =
    let first = bind_ok (known_part d m.name m.index) (λ k. known_parts d (n ∷ ms) >>= λ more. Ok (k ∷ more)) ks p in
    let rest = bind_ok (known_parts d (n ∷ ms)) (λ more. Ok (first.0 ∷ more)) ks first.2 in
    subst (λ (l : List Known). EndsPlain l) (ok_is _ _ rest.2) (ends_more first.0 rest.0 (parts_end d (n ∷ ms) rest.0 rest.1 e))

erases_any : (kind : Kind) (k : Known) (ks : List Known) (value : List ℕ) → takes_value kind ≡ false → HasValue (edit_on kind k ks value)
erases_any inserts k ks value p = absurd cc
erases_any modifies k ks value p = absurd cc
erases_any erases k ks value p = erases_have (λ x. item_or_element x.tag x.index) k ks (λ x. plain_erase x.tag x.index)
erases_any modifies_all k ks value p = absurd cc
erases_any erases_all k ks value p = tt

pub form_ends : (kind : Kind) (ms : List PathPart) → takes_value kind ≡ true → has_form kind ms ≡ true → ends_in_tag ms ≡ true
form_ends inserts ms p h = and_middle (leads ms) (ends_in_tag ms) _ h
  where
    and_middle : (a b c : Bool) → (a && b && c) ≡ true → b ≡ true
    and_middle true true c p = refl
    and_middle true false c p = absurd cc
    and_middle false b c p = absurd cc
form_ends modifies ms p h = and_middle (leads ms) (ends_in_tag ms) _ h
  where
    and_middle : (a b c : Bool) → (a && b && c) ≡ true → b ≡ true
    and_middle true true c p = refl
    and_middle true false c p = absurd cc
    and_middle false b c p = absurd cc
form_ends erases ms p h = absurd cc
form_ends modifies_all ms p h = and_second _ _ h
form_ends erases_all ms p h = absurd cc

pub form_one : (kind : Kind) (ms : List PathPart) → has_form kind ms ≡ true → kind ≡ modifies_all → length ms ≡ 1
form_one inserts ms h e = absurd cc
form_one modifies ms h e = absurd cc
form_one erases ms h e = absurd cc
form_one modifies_all ms h e = eqb-true (length ms) 1 (and_first _ _ h)
form_one erases_all ms h e = absurd cc

pub if_test : {A : Type 0} (c : Bool) (u : EditRefusal) (r : Result A EditRefusal) (y : A) → (if c then r else Err u) ≡ Ok y → c ≡ true
if_test true u r y p = refl
if_test false u r y p = absurd cc

-- ---- one edit

abbrev Fits : Edit → Type 0
Fits e = HasValue e × HasShortIndexes e × (depth e ≤ 64)

value_by_kind : (d : Dictionary) (kind : Kind) (t : Bool) (ms : List PathPart) (k : Known) (ks : List Known) (value : List ℕ) → takes_value kind ≡ t → has_form kind ms ≡ true → known_parts d ms ≡ Ok (k ∷ ks)
    → uses_sequences (takes_value kind) (k ∷ ks) ≡ true → HasValue (edit_on kind k ks value)
value_by_kind d kind true ms k ks value t f m u =
    edit_has kind k ks value (parts_end d ms (k ∷ ks) m (form_ends kind ms t f)) (λ x. subst (λ (y : Bool). uses_sequences y (k ∷ ks) ≡ true) t u) (λ x. known_count d ms (k ∷ ks) m ∙ form_one kind ms f x)
value_by_kind d kind false ms k ks value t f m u = erases_any kind k ks value t

known_fits : (d : Dictionary) (kind : Kind) (v : List ℕ) (ms : List PathPart) (ks : List Known) (e : Edit) → has_form kind ms ≡ true → known_parts d ms ≡ Ok ks → AllShortKnown ks → edit_of_known kind v ks ≡ Ok e → Fits e
known_fits d kind v ms [] e formed known short h = absurd cc
known_fits d kind v ms (k ∷ ks) e formed known short h =
    let used : uses_sequences (takes_value kind) (k ∷ ks) ≡ true = if_test (uses_sequences (takes_value kind) (k ∷ ks)) SequenceMisused _ e h in
    let r = bind_ok (value_for kind (last_vr k ks) v) (λ value. Ok (edit_on kind k ks value)) e (if_ok (uses_sequences (takes_value kind) (k ∷ ks)) SequenceMisused _ e h) in
    subst (λ (x : Edit). Fits x) (ok_is _ _ r.2) (value_by_kind d kind (takes_value kind) ms k ks r.0 refl formed known used, edit_short kind k ks r.0 short, edit_depth d kind ms k ks r.0 formed known)

edit_fits : (d : Dictionary) (kind : Kind) (p v : List ℕ) (e : Edit) → meant_edit d kind p v ≡ Ok e → Fits e
edit_fits d kind p v e h =
    let a = bind_ok (or_refuse BadOption (parts_of (slice_split (λ c. c == byte ".") p))) (edit_of_parts d kind v) e h in
    let formed : has_form kind a.0 ≡ true = if_test (has_form kind a.0) BadOption _ e a.2 in
    let b = bind_ok (known_parts d a.0) (edit_of_known kind v) e (if_ok (has_form kind a.0) BadOption _ e a.2) in
    let short = parts_short (slice_split (λ c. c == byte ".") p) a.0 (or_refused BadOption _ a.0 a.1) in
    known_fits d kind v a.0 b.0 e formed b.1 (known_short d a.0 b.0 short b.1) b.2

-- ---- all edits

abbrev pub AllHave : (Edit → Type 0) → List Edit → Type 0
AllHave P [] = Unit {0}
AllHave P (e ∷ es) = P e × AllHave P es

abbrev pub AllFine : (List ℕ → Type 0) → List (List ℕ) → Type 0
AllFine Fine [] = Unit {0}
AllFine Fine (w ∷ words) = Fine w × AllFine Fine words

-- without those that are no edits, fine words are fine
fine_unless : (Fine : List ℕ → Type 0) (t : Bool) (w : List ℕ) (words : List (List ℕ)) → Fine w → AllFine Fine words → AllFine Fine (if t then words else w ∷ words)
fine_unless Fine true w words h g = g
fine_unless Fine false w words h g = (h, g)

fine_by : (Fine : List ℕ → Type 0) (t : Bool) (two one : List (List ℕ)) → AllFine Fine two → AllFine Fine one → AllFine Fine (elim t [ true ↦ two | false ↦ one ])
fine_by Fine true two one h g = h
fine_by Fine false two one h g = g

fine_without : (Fine : List ℕ → Type 0) (words : List (List ℕ)) → AllFine Fine words → AllFine Fine (without_settings words)
fine_without Fine [] fine = tt
fine_without Fine (w ∷ []) fine = fine_unless Fine (is_setting w) w [] fine.0 tt
fine_without Fine (w ∷ v ∷ words) fine =
    fine_by Fine (takes_next (option_word w)) (w ∷ v ∷ without_settings words) (unless_setting w (without_settings (v ∷ words)))
    (fine.0, (fine.1.0, fine_without Fine words fine.1.1))
    (fine_unless Fine (is_setting w) w (without_settings (v ∷ words)) fine.0 (fine_without Fine (v ∷ words) fine.1))

-- what is so of each edit that a word means is so of all that the words of a command line mean, where the words, and so their values, are fine
module _ (d : Dictionary) (Fine : List ℕ → Type 0) (none_fine : Fine []) (cut_fine : (w : List ℕ) → Fine w → Fine (unwrap_or (cut_at (byte "=") w).after []))
    (P : Edit → Type 0) (private_has : P erase_private) (one_has : (kind : Kind) (p v : List ℕ) (e : Edit) → Fine v → meant_edit d kind p v ≡ Ok e → P e) where
  word_has : (kind : Kind) (w : List ℕ) (e : Edit) → Fine w → meant_word d kind w ≡ Ok e → P e
  word_has kind w e fine h =
      by_test (takes_value kind) _ _ h (λ g. one_has kind (cut_at (byte "=") w).before (unwrap_or (cut_at (byte "=") w).after []) e (cut_fine w fine) g) (λ g. one_has kind w [] e none_fine g)
    where
      by_test : (c : Bool) (r q : Result Edit EditRefusal) → (if c then r else q) ≡ Ok e → (r ≡ Ok e → P e) → (q ≡ Ok e → P e) → P e
      by_test true r q k f g = f k
      by_test false r q k f g = g k

  all_is : (fs es : List Edit) → fs ≡ es → AllHave P fs → AllHave P es
  all_is fs es p h = subst (λ (l : List Edit). AllHave P l) p h

  then_have : (e : Edit) (r : Result (List Edit) InEdit) (es : List Edit) → P e → ((fs : List Edit) → r ≡ Ok fs → AllHave P fs) → and_then e r ≡ Ok es → AllHave P es
  then_have e (Ok fs) es p h q = all_is (e ∷ fs) es (ok_is _ _ q) (p, h fs refl)
  then_have e (Err u) es p h q = absurd cc

  word_then : (n : ℕ) (r : Result Edit EditRefusal) (more : Result (List Edit) InEdit) (es : List Edit) → ((e : Edit) → r ≡ Ok e → P e)
      → ((fs : List Edit) → more ≡ Ok fs → AllHave P fs) → (let s : Result (List Edit) InEdit = elim (at_edit n r) [ Ok e ↦ and_then e more | Err u ↦ Err u ] in s ≡ Ok es) → AllHave P es
  word_then n (Ok e) more es p h q = then_have e more es (p e refl) h q
  word_then n (Err u) more es p h q = absurd cc

  one_word : (o : OptionWord) (n : ℕ) (es : List Edit)
      → (let s : Result (List Edit) InEdit = elim o [ private_word ↦ Ok (erase_private ∷ []) | takes_word kind ↦ Err (in_edit BadOption n) | unknown_word ↦ Err (in_edit BadOption n) ] in s ≡ Ok es) → AllHave P es
  one_word private_word n es q = all_is (erase_private ∷ []) es (ok_is _ _ q) (private_has, tt)
  one_word (takes_word kind) n es q = absurd cc
  one_word unknown_word n es q = absurd cc

  two_words : (o : OptionWord) (n : ℕ) (v : List ℕ) (skip more : Result (List Edit) InEdit) (es : List Edit) → Fine v
      → ((fs : List Edit) → skip ≡ Ok fs → AllHave P fs) → ((fs : List Edit) → more ≡ Ok fs → AllHave P fs)
      → (let s : Result (List Edit) InEdit = elim o [
        | private_word ↦ and_then erase_private skip
        | takes_word kind ↦ elim (at_edit n (meant_word d kind v)) [ Ok e ↦ and_then e more | Err u ↦ Err u ]
        | unknown_word ↦ Err (in_edit BadOption n)
      ] in s ≡ Ok es) → AllHave P es
  two_words private_word n v skip more es fine g h q = then_have erase_private skip es private_has g q
  two_words (takes_word kind) n v skip more es fine g h q = word_then n (meant_word d kind v) more es (λ e r. word_has kind v e fine r) h q
  two_words unknown_word n v skip more es fine g h q = absurd cc

  words_have : (n : ℕ) (words : List (List ℕ)) (es : List Edit) → AllFine Fine words → meant_from d n words ≡ Ok es → AllHave P es
  words_have n [] es fine q = all_is [] es (ok_is _ _ q) tt
  words_have n (w ∷ []) es fine q = one_word (option_word w) n es (in_turn (nat_lt EDIT_LIMIT n) (in_edit TooMany n) _ es q)
  words_have n (w ∷ v ∷ words) es fine q =
      two_words (option_word w) n v _ _ es fine.1.0 (λ fs g. words_have (suc n) (v ∷ words) fs fine.1 g) (λ fs g. words_have (suc n) words fs fine.1.1 g) (in_turn (nat_lt EDIT_LIMIT n) (in_edit TooMany n) _ es q)

  all_have : (r : Result (List Edit) InEdit) (es : List Edit) → (let s : Result (List Edit) InEdit = elim r [ Ok fs ↦ apart fs | Err u ↦ Err u ] in s ≡ Ok es)
      → ((fs : List Edit) → r ≡ Ok fs → AllHave P fs) → AllHave P es
  all_have (Ok fs) es q h = by_overlap (first_overlap 1 [] fs) q
    where
      by_overlap : (o : Option ℕ) → (let s : Result (List Edit) InEdit = elim o [ None ↦ Ok fs | Some n ↦ Err (in_edit Overlap n) ] in s ≡ Ok es) → AllHave P es
      by_overlap None g = all_is fs es (ok_is _ _ g) (h fs refl)
      by_overlap (Some n) g = absurd cc
  all_have (Err u) es q h = absurd cc

  pub fine_edits_have : (words : List (List ℕ)) (es : List Edit) → AllFine Fine words → meant_edits_in d words ≡ Ok es → AllHave P es
  fine_edits_have words es fine q =
      let edit_words = without_settings words in
      all_have (meant_from d 1 edit_words) es q (λ fs g. words_have 1 edit_words fs (fine_without Fine words fine) g)

abbrev Any : List ℕ → Type 0
Any w = Unit {0}

all_any : (words : List (List ℕ)) → AllFine Any words
all_any [] = tt
all_any (w ∷ words) = (tt, all_any words)

pub all_edits_have : (d : Dictionary) (P : Edit → Type 0) → P erase_private → ((kind : Kind) (p v : List ℕ) (e : Edit) → meant_edit d kind p v ≡ Ok e → P e)
    → (words : List (List ℕ)) (es : List Edit) → meant_edits_in d words ≡ Ok es → AllHave P es
all_edits_have d P private_has one_has words es q = fine_edits_have d Any tt (λ w fine. tt) P private_has (λ kind p v e fine h. one_has kind p v e h) words es (all_any words) q

all_of : (es : List Edit) → AllHave Fits es → HaveValues es × HaveShortIndexes es × AreWithin 64 es
all_of [] h = (tt, tt, tt)
all_of (e ∷ es) h = let more = all_of es h.1 in ((h.0.0, more.0), (h.0.1, more.1), (h.0.2, more.2))

-- the law
pub edits_fit : (d : Dictionary) (words : List (List ℕ)) (es : List Edit) → meant_edits_in d words ≡ Ok es → HaveValues es × HaveShortIndexes es × AreWithin 64 es
edits_fit d words es q = all_of es (all_edits_have d Fits (tt, tt, omega arith) (edit_fits d) words es q)
