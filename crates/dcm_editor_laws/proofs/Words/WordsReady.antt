-- A target syntax has room for the elements that words name by its dictionary.
use Rattle.std.proofs.Common.{◌≡◌, ◌≢◌, ◌∙◌, ◌≤◌, ℕ, suc, List, [], ◌∷◌, length, Option, Some, None, Ok, Bool, true, false, not, ◌&&◌, refl, sym, subst, arith, ap}
use Rattle.std.specs.Prelude.{if◌then◌else◌, ◌==◌, nat_le}
use Rattle.std.specs.List.{slice_split}
use Rattle.std.specs.Str.{byte}
use Rattle.std.specs.Option.{is_some}
use Rattle.std.proofs.lemmas.Bool.{leb-true}
use Rattle.dcm_edits.proofs.Words.Forms.{known_count}
use Rattle.dcm_lemmas.proofs.Options.{some_is}
use Rattle.dcm_lemmas.proofs.Truth.{and_first, and_second}
use Rattle.dcm_base.specs.declared.tag.Tag.{Tag}
use Rattle.dcm_base.specs.declared.vr.Vr.{Vr}
use Rattle.dcm_base.specs.declared.vr.Vr.TheVariants.{SQ, UN}
use Rattle.dcm_base.specs.declared.syntax.Syntax.{Syntax}
use Rattle.dcm_base.specs.declared.syntax.Syntax.TheVariants.{Implicit as implicit_in, Little as little_in, Big as big_in}
use Rattle.dcm_base.specs.Tables.Syntax.{dictionary_of, Little}
use Rattle.dcm_base.specs.declared.length.Length.TheVariants as length_variants
use Rattle.dcm_base.specs.declared.form.Form.TheVariants.{Value as a_value, Sequence as a_sequence}
use Rattle.dcm_base.specs.declared.fault.EditRefusal.TheVariants.{BadOption, SequenceMisused, ValueDoesNotFit}
use Rattle.dcm_base.specs.Tables.Dictionary.{vr_in}
use Rattle.dcm_base.specs.Conversion.Normal.{TellsValue, TellsSequence, normal_vr}
use Rattle.dcm_base.specs.Lines.ReadValue.{◌>>=◌, VALUE_LIMIT, within_limit, is_no_value, takes_bytes, value_in, value_of_text, value_of_word}
use Rattle.dcm_base.specs.Tables.Representation.{is_sequence, unit}
use Rattle.dcm_base.specs.Dump.ValueText.{shape}
use Rattle.dcm_base.specs.Bytes.Spelling.{form, read_in}
use Rattle.dcm_base.proofs.DumpsBack.DigitNumbers.{bind_some, if_some}
use Rattle.dcm_sinks.proofs.ReadBack.Sources.{target_value, target_sequence}
use Rattle.dcm_edits.specs.Edit.{Index, PathEdit, insert, modify, Edit}
use Rattle.dcm_edits.specs.EditWords.{PathPart, parts_of, Known, known_parts, has_form, is_indexed, uses_sequences, takes_value, Kind, inserts, modifies, erases, modifies_all, erases_all, last_vr, on_steps, step_to, item_or_element, edit_on, value_for, edit_of_known, edit_of_parts, meant_edit, meant_edits_in, or_refuse}
use Rattle.dcm_edits.proofs.Words.EditWordLemmas.{bind_ok, ok_is, if_ok, or_refused, parts_within}
use Rattle.dcm_editor_laws.proofs.Words.KnownTags.{IsListed, AllListed, parts_listed}
use Rattle.dcm_editor_laws.proofs.ReadBack.StaysReady.{LeafReady, StepReady, PathReady, EditReady, AreReady}
use Rattle.dcm_edits.proofs.Words.WordValues.{EndsPlain, plain_last, parts_end, form_ends, form_one, if_test, AllHave, all_edits_have}
use Rattle.dcm_base.specs.declared.dictionary.Dictionary.{Dictionary}
use Rattle.dcm_base.specs.declared.dictionary.Dictionary.TheVariants.{Extract, Standard, Signed}

-- ---- values

limit_short : (w v : List ℕ) → within_limit w ≡ Some v → length v ≤ 65536
limit_short w v p =
    let q = if_some (nat_le (length w) VALUE_LIMIT) (Some w) v p in
    subst (λ (x : List ℕ). length x ≤ 65536) (some_is w v q.1) (leb-true (length w) 65536 q.0)

nothing_short : (v : List ℕ) → (let o : Option (List ℕ) = Some [] in o ≡ Some v) → length v ≤ 65536
nothing_short v p = subst (λ (x : List ℕ). length x ≤ 65536) (some_is [] v p) (omega arith)

shaped_short : (c : Bool) (o : Option (List ℕ)) (v : List ℕ) → (if c then Some [] else (o >>= within_limit)) ≡ Some v → length v ≤ 65536
shaped_short true o v p = nothing_short v p
shaped_short false o v p = let q = bind_some o within_limit v p in limit_short q.0 v q.2

text_short : (vr : Vr) (cs v : List ℕ) → value_of_text vr cs ≡ Some v → length v ≤ 65536
text_short SQ cs v p = absurd cc
text_short vr cs v p = shaped_short (is_no_value cs) (value_in (shape vr) (unit vr) cs) v p

word_short : (vr : Vr) (cs v : List ℕ) → value_of_word vr cs ≡ Some v → length v ≤ 65536
word_short vr [] v p = nothing_short v p
word_short vr (c ∷ cs) v p = by_test (takes_bytes (shape vr)) p
  where
    by_test : (b : Bool) → (if b then within_limit (c ∷ cs) else value_of_text vr (c ∷ cs)) ≡ Some v → length v ≤ 65536
    by_test true q = limit_short (c ∷ cs) v q
    by_test false q = text_short vr (c ∷ cs) v q

value_short : (kind : Kind) (vr : Vr) (text v : List ℕ) → value_for kind vr text ≡ Ok v → length v ≤ 65536
value_short kind vr text v p = by_test (takes_value kind) (or_refused ValueDoesNotFit (if takes_value kind then value_of_word vr text else Some []) v p)
  where
    by_test : (b : Bool) → (if b then value_of_word vr text else Some []) ≡ Some v → length v ≤ 65536
    by_test true q = word_short vr text v q
    by_test false q = nothing_short v q

-- ---- elements

value_form : (vr : Vr) (n : ℕ) → is_sequence vr ≡ false → form Little vr (length_variants.Known n) ≡ a_value
unfolding form
value_form SQ n e = absurd cc
value_form _ n e = refl

sequence_form : (s : Syntax) (vr : Vr) → is_sequence vr ≡ true → form s vr length_variants.Undefined ≡ a_sequence
unfolding form
sequence_form s SQ e = refl
sequence_form s _ e = absurd cc

pub no_sequence : (vr : Vr) → is_sequence vr ≡ false → vr ≢ SQ
no_sequence SQ e = absurd cc
no_sequence vr e = λ k. cc

-- what is unknown is no sequence by a dictionary that calls the tag none
read_plain : (d : Dictionary) (t : Tag) (w : Vr) → is_sequence (vr_in d t) ≡ false → read_in d t w ≡ w
read_plain Extract t w e = refl
read_plain Standard t UN e = ap (λ (b : Bool). if b then SQ else UN) e
read_plain Standard t w e = refl
read_plain Signed t UN e = ap (λ (b : Bool). if b then SQ else UN) e
read_plain Signed t w e = refl

tells_value : (s : Syntax) (t : Tag) (vr : Vr) (n : ℕ) → vr_in (dictionary_of s) t ≡ vr → is_sequence vr ≡ false → TellsValue s t vr n
tells_value (implicit_in d) t vr n e h = λ k. no_sequence vr h (sym e ∙ k)
tells_value (little_in d) t vr n e h = read_plain d t (normal_vr (little_in d) t vr n) (ap is_sequence e ∙ h)
tells_value (big_in d) t vr n e h = read_plain d t (normal_vr (big_in d) t vr n) (ap is_sequence e ∙ h)

tells_sequence : (s : Syntax) (t : Tag) (vr : Vr) → vr_in (dictionary_of s) t ≡ vr → is_sequence vr ≡ true → TellsSequence s t
tells_sequence (implicit_in d) t vr e h = subst (λ (x : Vr). form (implicit_in d) x length_variants.Undefined ≡ a_sequence) (sym e) (sequence_form (implicit_in d) vr h)
tells_sequence (little_in d) t vr e h = tt
tells_sequence (big_in d) t vr e h = tt

leaf_ready : (s : Syntax) (k : Known) (v : List ℕ) → IsListed (dictionary_of s) k → is_sequence k.vr ≡ false → length v ≤ 65536 → LeafReady s k.tag k.vr v
leaf_ready s k v listed plain short =
    (listed.0, omega (arith, short), target_value s Little k.tag k.vr (length v) (value_form k.vr (length v) plain) (tells_value s k.tag k.vr (length v) listed.1 plain))

step_ready : (s : Syntax) (k : Known) → IsListed (dictionary_of s) k → is_sequence k.vr ≡ true → StepReady s k.tag
step_ready s k listed h = (listed.0, target_sequence s k.tag (tells_sequence s k.tag k.vr listed.1 h))

-- ---- paths

-- the end of the path
abbrev LastReady : Syntax → (Known → PathEdit) → Known → List Known → Type 0
LastReady s at_end k [] = PathReady s (at_end k)
LastReady s at_end k (l ∷ ks) = LastReady s at_end l ks

step_to_ready : (s : Syntax) (k : Known) (o : Option Index) (other : Bool) (edit : PathEdit) → IsListed (dictionary_of s) k → (if is_some o then is_sequence k.vr else other) ≡ true → PathReady s edit → PathReady s (step_to k.tag o edit)
step_to_ready s k None other edit listed h r = r
step_to_ready s k (Some index) other edit listed h r = (step_ready s k listed h, r)

steps_ready : (s : Syntax) (valued : Bool) (at_end : Known → PathEdit) (k : Known) (ks : List Known) → AllListed (dictionary_of s) (k ∷ ks) → uses_sequences valued (k ∷ ks) ≡ true → LastReady s at_end k ks → PathReady s (on_steps at_end k ks)
steps_ready s valued at_end k [] a u h = h
steps_ready s valued at_end k (l ∷ ks) a u h =
    let test : Bool = if is_indexed k then is_sequence k.vr else not (valued && is_sequence k.vr) in
    step_to_ready s k k.index (not (valued && is_sequence k.vr)) (on_steps at_end l ks) a.0 (and_first test _ u) (steps_ready s valued at_end l ks a.1 (and_second test _ u) h)

last_valued : (s : Syntax) (at_end : Known → PathEdit) (k : Known) (ks : List Known) → ((x : Known) → IsListed (dictionary_of s) x → is_sequence x.vr ≡ false → PathReady s (at_end x)) → AllListed (dictionary_of s) (k ∷ ks) → EndsPlain (k ∷ ks)
    → uses_sequences true (k ∷ ks) ≡ true → LastReady s at_end k ks
last_valued s at_end k [] h a p u = h k a.0 (plain_last (is_indexed k) (is_sequence k.vr) p (and_first _ true u))
last_valued s at_end k (l ∷ ks) h a p u = last_valued s at_end l ks h a.1 p (and_second (if is_indexed k then is_sequence k.vr else not (true && is_sequence k.vr)) _ u)

last_erased : (s : Syntax) (k : Known) (ks : List Known) → LastReady s (λ x. item_or_element x.tag x.index) k ks
last_erased s k [] = by_index k.index
  where
    by_index : (o : Option Index) → PathReady s (item_or_element k.tag o)
    by_index None = tt
    by_index (Some index) = tt
last_erased s k (l ∷ ks) = last_erased s l ks

erases_ready : (s : Syntax) (valued : Bool) (k : Known) (ks : List Known) → AllListed (dictionary_of s) (k ∷ ks) → uses_sequences valued (k ∷ ks) ≡ true → PathReady s (on_steps (λ x. item_or_element x.tag x.index) k ks)
erases_ready s valued k ks a u = steps_ready s valued (λ x. item_or_element x.tag x.index) k ks a u (last_erased s k ks)

-- ---- one edit

-- a new value is no sequence's
valued_ready : (s : Syntax) (kind : Kind) (k : Known) (ks : List Known) (v : List ℕ) → AllListed (dictionary_of s) (k ∷ ks) → length v ≤ 65536 → EndsPlain (k ∷ ks) → uses_sequences true (k ∷ ks) ≡ true
    → (kind ≡ modifies_all → length (k ∷ ks) ≡ 1) → EditReady s (edit_on kind k ks v)
valued_ready s inserts k ks v a short p u l =
    steps_ready s true (λ x. insert x.tag x.vr v) k ks a u (last_valued s (λ x. insert x.tag x.vr v) k ks (λ x listed plain. leaf_ready s x v listed plain short) a p u)
valued_ready s modifies k ks v a short p u l =
    steps_ready s true (λ x. modify x.tag x.vr v) k ks a u (last_valued s (λ x. modify x.tag x.vr v) k ks (λ x listed plain. leaf_ready s x v listed plain short) a p u)
valued_ready s erases k ks v a short p u l = erases_ready s true k ks a u
valued_ready s modifies_all k [] v a short p u l = (leaf_ready s k v a.0 (plain_last (is_indexed k) (is_sequence k.vr) p (and_first _ true u)) short, a.0.2)
valued_ready s modifies_all k (m ∷ ks) v a short p u l = absurd (two (length ks) (l refl))
  where
    two : (n : ℕ) → suc (suc n) ≡ 1 → ⊥
    two n e = omega arith
valued_ready s erases_all k ks v a short p u l = tt

erasing_ready : (s : Syntax) (kind : Kind) (k : Known) (ks : List Known) (v : List ℕ) → AllListed (dictionary_of s) (k ∷ ks) → takes_value kind ≡ false → uses_sequences false (k ∷ ks) ≡ true → EditReady s (edit_on kind k ks v)
erasing_ready s inserts k ks v a t u = absurd cc
erasing_ready s modifies k ks v a t u = absurd cc
erasing_ready s erases k ks v a t u = erases_ready s false k ks a u
erasing_ready s modifies_all k ks v a t u = absurd cc
erasing_ready s erases_all k ks v a t u = tt

edit_on_ready : (s : Syntax) (kind : Kind) (t : Bool) (ms : List PathPart) (k : Known) (ks : List Known) (v : List ℕ) → takes_value kind ≡ t → has_form kind ms ≡ true → known_parts (dictionary_of s) ms ≡ Ok (k ∷ ks)
    → uses_sequences t (k ∷ ks) ≡ true → AllListed (dictionary_of s) (k ∷ ks) → length v ≤ 65536 → EditReady s (edit_on kind k ks v)
edit_on_ready s kind true ms k ks v t f m u a short =
    valued_ready s kind k ks v a short (parts_end (dictionary_of s) ms (k ∷ ks) m (form_ends kind ms t f)) u (λ x. known_count (dictionary_of s) ms (k ∷ ks) m ∙ form_one kind ms f x)
edit_on_ready s kind false ms k ks v t f m u a short = erasing_ready s kind k ks v a t u

known_ready : (s : Syntax) (kind : Kind) (text : List ℕ) (ms : List PathPart) (ks : List Known) (e : Edit) → has_form kind ms ≡ true → known_parts (dictionary_of s) ms ≡ Ok ks → AllListed (dictionary_of s) ks → edit_of_known kind text ks ≡ Ok e → EditReady s e
known_ready s kind text ms [] e formed known listed h = absurd cc
known_ready s kind text ms (k ∷ ks) e formed known listed h =
    let used : uses_sequences (takes_value kind) (k ∷ ks) ≡ true = if_test (uses_sequences (takes_value kind) (k ∷ ks)) SequenceMisused _ e h in
    let r = bind_ok (value_for kind (last_vr k ks) text) (λ value. Ok (edit_on kind k ks value)) e (if_ok (uses_sequences (takes_value kind) (k ∷ ks)) SequenceMisused _ e h) in
    subst (λ (x : Edit). EditReady s x) (ok_is (edit_on kind k ks r.0) e r.2) (edit_on_ready s kind (takes_value kind) ms k ks r.0 refl formed known used listed (value_short kind (last_vr k ks) text r.0 r.1))

meant_ready : (s : Syntax) (kind : Kind) (p v : List ℕ) (e : Edit) → meant_edit (dictionary_of s) kind p v ≡ Ok e → EditReady s e
meant_ready s kind p v e h =
    let texts = slice_split (λ c. c == byte ".") p in
    let a = bind_ok (or_refuse BadOption (parts_of texts)) (edit_of_parts (dictionary_of s) kind v) e h in
    let b = bind_ok (known_parts (dictionary_of s) a.0) (edit_of_known kind v) e (if_ok (has_form kind a.0) BadOption _ e a.2) in
    known_ready s kind v a.0 b.0 e (if_test (has_form kind a.0) BadOption _ e a.2) b.1 (parts_listed (dictionary_of s) a.0 b.0 (parts_within texts a.0 (or_refused BadOption _ a.0 a.1)) b.1) b.2

-- ---- all edits

are_ready : (s : Syntax) (es : List Edit) → AllHave (EditReady s) es → AreReady s es
are_ready s [] h = tt
are_ready s (e ∷ es) h = (h.0, are_ready s es h.1)

pub edits_ready : (s : Syntax) (words : List (List ℕ)) (es : List Edit) → meant_edits_in (dictionary_of s) words ≡ Ok es → AreReady s es
edits_ready s words es q = are_ready s es (all_edits_have (dictionary_of s) (EditReady s) tt (meant_ready s) words es q)
