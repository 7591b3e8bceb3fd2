-- What is left of a data set without identity has room in the syntax that it was read in.
use Rattle.std.proofs.Common.{◌≡◌, ◌≢◌, ◌∙◌, ap, sym, refl, subst, ℕ, suc, ◌≤◌, ◌<◌, List, [], ◌∷◌, length, Bool, true, false, arith}
use Rattle.std.specs.Prelude.{◌==◌, codes, if◌then◌else◌, nat_le}
use Rattle.std.proofs.lemmas.Bool.{leb-true}
use Rattle.dcm_base.specs.declared.tag.Tag.{Tag}
use Rattle.dcm_base.specs.declared.vr.Vr.{Vr}
use Rattle.dcm_base.specs.declared.vr.Vr.TheVariants.{CS, LO, OB, OW, SH, SQ, UN}
use Rattle.dcm_base.specs.declared.form.Form.TheVariants.{Value as a_value, Sequence as a_sequence, FragmentList as a_fragment_list}
use Rattle.dcm_base.specs.declared.length.Length.TheVariants.{Known, Undefined}
use Rattle.dcm_base.specs.declared.dictionary.Dictionary.{Dictionary}
use Rattle.dcm_base.specs.declared.dictionary.Dictionary.TheVariants.{Standard, Extract, Signed}
use Rattle.dcm_base.specs.declared.syntax.Syntax.{Syntax}
use Rattle.dcm_base.specs.declared.syntax.Syntax.TheVariants.{Implicit as implicit_in, Little as little_in, Big as big_in}
use Rattle.dcm_base.specs.Bytes.Spelling.{form, read_as, read_in}
use Rattle.dcm_base.specs.Conversion.Normal.{normal_vr, normal_sequence_vr}
use Rattle.dcm_base.specs.Conversion.Recode.{even, is_explicit, too_long}
use Rattle.dcm_base.specs.Reading.Bars.{holds_fragments}
use Rattle.dcm_base.specs.Tables.Dictionary as D
use Rattle.dcm_base.specs.Tables.Dictionary.{vr_in}
use Rattle.dcm_base.specs.Tables.Representation.{is_sequence, pad}
use Rattle.dcm_base.specs.Tables.Syntax.{dictionary_of}
use Rattle.dcm_base.specs.Tables.Tag.{below}
use Rattle.dcm_base.specs.Tables.Transfer.{without_pads}
use Rattle.dcm_base.specs.Tree.Tree.{Trees, no_tree, leaf, sequence, fragments, Items, no_item, item, then_trees}
use Rattle.dcm_base.specs.Tree.Value.{evened}
use Rattle.dcm_base.proofs.Conversions.NormalForm.{evened_size}
use Rattle.dcm_editor_laws.proofs.Words.WordsReady.{no_sequence}
use Rattle.dcm_sinks.proofs.ReadBack.HasRoom.{IsElement, AreShort, Ready, ReadyItems}
use Rattle.dcm_sinks.proofs.ReadBack.Sources.{spelled_no_sequence}
use Rattle.dcm_editor_laws.proofs.ReadBack.Plain.{plain}
use Rattle.dcm_deid.specs.declared.fate.Fate.{Fate}
use Rattle.dcm_deid.specs.declared.fate.Fate.TheVariants.{Remove, Empty, Replace, Anew, Keep}
use Rattle.dcm_deid.specs.declared.fate.Options.{Options}
use Rattle.dcm_deid.specs.declared.fate.Depth.{Depth}
use Rattle.dcm_deid.specs.declared.fate.Depth.TheVariants.{Outermost, Inside}
use Rattle.dcm_deid.specs.declared.fate.ReadAs.TheVariants.{AsBytes, AsItems}
use Rattle.dcm_deid.specs.Fate.{fate_as, are_left}
use Rattle.dcm_deid.specs.Deidentify.{dummy, value_by, leaf_by, sequence_by, fragments_by, deidentified_set, items_by_fate}
use Rattle.dcm_deid.specs.MadeNew.{made_new}
use Rattle.dcm_deid.specs.Saying.{code_if, code_item, dates_said, methods, put_in, said, tag_at, dates_became, dates_code, dates_meaning}
use Rattle.dcm_deid.specs.declared.fate.NewValue.{NewValue}
use Rattle.dcm_deid.specs.declared.fate.Temporal.{Temporal}
use Rattle.dcm_deid.specs.declared.fate.Temporal.TheVariants.{Removed, Full, Modified}
use Rattle.dcm_deid.proofs.MadeValues.{made_short}
use Rattle.dcm_deid.proofs.Trees.Known.{transparent}
use Rattle.dcm_deid.proofs.Trees.Said.{set_with, set_with_all}

-- ---- forms

value_known : (s : Syntax) (vr : Vr) (n : ℕ) → vr ≢ SQ → form s vr (Known n) ≡ a_value
unfolding form
value_known s SQ n h = absurd (h refl)
value_known s _ n h = refl

-- of a tag that the dictionary calls no sequence
pub read_known : (d : Dictionary) (t : Tag) (vr : Vr) → d ≡ Standard → is_sequence (vr_in Standard t) ≡ false → read_in d t vr ≡ vr
read_known Extract t vr is none = refl
read_known Standard t UN is none = ap (λ (b : Bool). if b then SQ else UN) none
read_known Standard t vr is none = refl
read_known Signed t vr is none = absurd (cc)

either_known : (b : Bool) (vr : Vr) → vr ≢ SQ → (if b then UN else vr) ≢ SQ
either_known true vr h = λ k. cc
either_known false vr h = h

pub value_form : (s : Syntax) → dictionary_of s ≡ Standard → (t : Tag) (vr : Vr) (m n : ℕ) → is_sequence (vr_in Standard t) ≡ false → (is_explicit s ≡ true → vr ≢ SQ)
    → form s (read_as s t (normal_vr s t vr m)) (Known n) ≡ a_value
value_form (implicit_in d) is t vr m n none other =
    value_known (implicit_in d) (vr_in d t) n (subst (λ (k : Dictionary). vr_in k t ≢ SQ) (sym is) (no_sequence (vr_in Standard t) none))
value_form (little_in d) is t vr m n none other =
    let w : Vr = normal_vr (little_in d) t vr m in
    ap (λ (x : Vr). form (little_in d) x (Known n)) (read_known d t w is none) ∙ value_known (little_in d) w n (either_known (too_long (little_in d) vr m) vr (other refl))
value_form (big_in d) is t vr m n none other =
    let w : Vr = normal_vr (big_in d) t vr m in
    ap (λ (x : Vr). form (big_in d) x (Known n)) (read_known d t w is none) ∙ value_known (big_in d) w n (either_known (too_long (big_in d) vr m) vr (other refl))

-- what an explicit head spells as a value is no SQ
plain_value : (s : Syntax) (t : Tag) (vr : Vr) (n m : ℕ) → form (plain s) (read_as (plain s) t (normal_vr (plain s) t vr n)) (Known m) ≡ a_value → is_explicit s ≡ true → vr ≢ SQ
plain_value (implicit_in d) t vr n m h is = absurd (cc)
plain_value (little_in d) t vr n m h is = λ k. spelled_no_sequence (little_in Extract) t (normal_vr (little_in Extract) t vr n) m h (ap (λ (w : Vr). normal_vr (little_in Extract) t w n) k)
plain_value (big_in d) t vr n m h is = λ k. spelled_no_sequence (big_in Extract) t (normal_vr (big_in Extract) t vr n) m h (ap (λ (w : Vr). normal_vr (big_in Extract) t w n) k)

sequence_form : (s : Syntax) (t : Tag) → form (plain s) (normal_sequence_vr (plain s) t) Undefined ≡ a_sequence → form s (normal_sequence_vr s t) Undefined ≡ a_sequence
unfolding form
sequence_form (implicit_in d) t h = h
sequence_form (little_in d) t h = refl
sequence_form (big_in d) t h = refl

little_fragments : (d e : Dictionary) (vr : Vr) → form (little_in d) vr Undefined ≡ a_fragment_list → form (little_in e) vr Undefined ≡ a_fragment_list
unfolding form
little_fragments d e SQ h = absurd (cc)
little_fragments d e UN h = absurd (cc)
little_fragments d e OB h = refl
little_fragments d e OW h = refl
little_fragments d e vr h = absurd (cc)

fragments_form : (s : Syntax) (vr : Vr) → holds_fragments (plain s) ≡ true → form (plain s) vr Undefined ≡ a_fragment_list → (holds_fragments s ≡ true) × (form s vr Undefined ≡ a_fragment_list)
fragments_form (implicit_in d) vr holds h = absurd (cc)
fragments_form (little_in d) vr holds h = (refl, little_fragments Extract d vr h)
fragments_form (big_in d) vr holds h = absurd (cc)

-- ---- values

dummy_within : (vr : Vr) → nat_le (length (dummy vr)) 256 ≡ true
unfolding dummy
dummy_within SQ = refl
dummy_within vr = refl

pub dummy_short : (vr : Vr) → length (dummy vr) ≤ 256
dummy_short vr = leb-true (length (dummy vr)) 256 (dummy_within vr)

pub renamed_short : (options : Options) (key : List ℕ) (made : NewValue) (vr : Vr) (v : List ℕ) → length (evened (pad vr) (made_new options key made v)) ≤ 256
renamed_short options key made vr v =
    let short = made_short options key made v in
    let size = evened_size (pad vr) (made_new options key made v) in
    omega (arith, short, size)

-- ---- the elements that are put

abbrev pub method_tag : Tag
method_tag = tag_at 0x0012 0x0064

element_of_code : IsElement (tag_at 0x0008 0x0100)
element_of_code = ((omega arith, omega arith), refl)

code_value : is_sequence (vr_in Standard (tag_at 0x0008 0x0100)) ≡ false
unfolding D.vr_in D.element_in D.elements_in D.entries D.ambiguous
code_value = refl

element_of_scheme : IsElement (tag_at 0x0008 0x0102)
element_of_scheme = ((omega arith, omega arith), refl)

scheme_value : is_sequence (vr_in Standard (tag_at 0x0008 0x0102)) ≡ false
unfolding D.vr_in D.element_in D.elements_in D.entries D.ambiguous
scheme_value = refl

element_of_meaning : IsElement (tag_at 0x0008 0x0104)
element_of_meaning = ((omega arith, omega arith), refl)

meaning_value : is_sequence (vr_in Standard (tag_at 0x0008 0x0104)) ≡ false
unfolding D.vr_in D.element_in D.elements_in D.entries D.ambiguous
meaning_value = refl

element_of_removed : IsElement (tag_at 0x0012 0x0062)
element_of_removed = ((omega arith, omega arith), refl)

removed_value : is_sequence (vr_in Standard (tag_at 0x0012 0x0062)) ≡ false
unfolding D.vr_in D.element_in D.elements_in D.entries D.ambiguous
removed_value = refl

element_of_text : IsElement (tag_at 0x0012 0x0063)
element_of_text = ((omega arith, omega arith), refl)

text_value : is_sequence (vr_in Standard (tag_at 0x0012 0x0063)) ≡ false
unfolding D.vr_in D.element_in D.elements_in D.entries D.ambiguous
text_value = refl

element_of_dates : IsElement (tag_at 0x0028 0x0303)
element_of_dates = ((omega arith, omega arith), refl)

dates_value : is_sequence (vr_in Standard (tag_at 0x0028 0x0303)) ≡ false
unfolding D.vr_in D.element_in D.elements_in D.entries D.ambiguous
dates_value = refl

element_of_method : IsElement method_tag
element_of_method = ((omega arith, omega arith), refl)

method_vr : vr_in Standard method_tag ≡ SQ
unfolding D.vr_in D.element_in D.elements_in D.entries D.ambiguous
method_vr = refl

-- ---- data sets

module _ (options : Options) (key : List ℕ) (s : Syntax) (standard : dictionary_of s ≡ Standard) where
  abbrev without : Depth → Trees → Trees
  without depth x = deidentified_set options (made_new options key) depth x

  abbrev without_items : Items → Items
  without_items x = items_by_fate (fate_as options) (value_by (made_new options key)) x

  abbrev WasValue : Tag → Vr → List ℕ → Type 0
  WasValue t vr v = IsElement t × (length v < 0xFFFFFFFF) × (form (plain s) (read_as (plain s) t (normal_vr (plain s) t vr (length v))) (Known (even (length v))) ≡ a_value)

  -- a new value where one was, of a tag that stays
  stays : (t : Tag) (vr : Vr) (v w : List ℕ) → is_sequence (vr_in Standard t) ≡ false → length w < 0xFFFFFFFF → WasValue t vr v
      → IsElement t × (length w < 0xFFFFFFFF) × (form s (read_as s t (normal_vr s t vr (length w))) (Known (even (length w))) ≡ a_value)
  stays t vr v w none short was = (was.0, short, value_form s standard t vr (length w) (even (length w)) none (plain_value s t vr (length v) (even (length v)) was.2))

  -- what stays of what was read as bytes is no sequence
  opened : (depth : Depth) (t : Tag) (fate : Fate) → fate_as options depth AsBytes t ≡ fate → fate ≢ Remove → is_sequence (vr_in Standard t) ≡ false
  opened depth t fate e other = transparent options depth t (λ k. other (sym e ∙ k))

  leaf_ready : (n : ℕ) (depth : Depth) (fate : Fate) (t : Tag) (vr : Vr) (v : List ℕ) (rest : Trees) → fate_as options depth AsBytes t ≡ fate → ((t.element == 0) ≡ false → WasValue t vr v) → Ready s n rest
      → Ready s n (leaf_by fate t vr (value_by (made_new options key) fate vr v) rest)
  unfolding Ready
  leaf_ready n depth Remove t vr v rest e was h = h
  leaf_ready n depth Empty t vr v rest e was h = (λ g. stays t vr v [] (opened depth t Empty e (λ k. cc)) (omega arith) (was g), h)
  leaf_ready n depth Replace t vr v rest e was h =
      (λ g. let short = dummy_short vr in stays t vr v (dummy vr) (opened depth t Replace e (λ k. cc)) (omega (arith, short)) (was g), h)
  leaf_ready n depth (Anew made) t vr v rest e was h =
      (λ g. let short = renamed_short options key made vr (without_pads v) in stays t vr v (evened (pad vr) (made_new options key made (without_pads v))) (opened depth t (Anew made) e (λ k. cc)) (omega (arith, short)) (was g), h)
  leaf_ready n depth Keep t vr v rest e was h = (λ g. stays t vr v v (opened depth t Keep e (λ k. cc)) (was g).1 (was g), h)

  abbrev WasSequence : ℕ → Tag → Items → Type 0
  WasSequence n t items = IsElement t × (n < 64) × (form (plain s) (normal_sequence_vr (plain s) t) Undefined ≡ a_sequence) × ReadyItems (plain s) (suc n) items

  sequence_ready : (n : ℕ) (fate : Fate) (t : Tag) (vr : Vr) (items left : Items) (rest : Trees) → ((t.element == 0) ≡ false → WasSequence n t items) → ((t.element == 0) ≡ false → ReadyItems s (suc n) left) → Ready s n rest
      → Ready s n (sequence_by fate t vr left rest)
  unfolding Ready
  sequence_ready n Remove t vr items left rest was inner h = h
  sequence_ready n Empty t vr items left rest was inner h = (λ g. ((was g).0, (was g).1, sequence_form s t (was g).2, tt), h)
  sequence_ready n Replace t vr items left rest was inner h = (λ g. ((was g).0, (was g).1, sequence_form s t (was g).2, tt), h)
  sequence_ready n (Anew made) t vr items left rest was inner h = (λ g. ((was g).0, (was g).1, sequence_form s t (was g).2, tt), h)
  sequence_ready n Keep t vr items left rest was inner h = (λ g. ((was g).0, (was g).1, sequence_form s t (was g).2, inner g), h)

  abbrev WasFragments : ℕ → Tag → Vr → List (List ℕ) → Type 0
  WasFragments n t vr parts = IsElement t × (n < 64) × (holds_fragments (plain s) ≡ true) × (form (plain s) vr Undefined ≡ a_fragment_list) × AreShort parts

  fragments_ready : (n : ℕ) (fate : Fate) (t : Tag) (vr : Vr) (parts : List (List ℕ)) (rest : Trees) → ((t.element == 0) ≡ false → WasFragments n t vr parts) → Ready s n rest → Ready s n (fragments_by fate t vr parts rest)
  unfolding Ready
  fragments_ready n Remove t vr parts rest was h = h
  fragments_ready n Empty t vr parts rest was h = h
  fragments_ready n Replace t vr parts rest was h = h
  fragments_ready n (Anew made) t vr parts rest was h = h
  fragments_ready n Keep t vr parts rest was h =
      (λ g. let two = fragments_form s vr (was g).2 (was g).3 in ((was g).0, (was g).1, two.0, two.1, (was g).4), h)

  mutual
    unfolding Ready

    pub set_ready : (n : ℕ) (depth : Depth) (x : Trees) → Ready (plain s) n x → Ready s n (without depth x)
    set_ready n depth no_tree h = tt
    set_ready n depth (leaf t vr v rest) h = leaf_ready n depth (fate_as options depth AsBytes t) t vr v (without depth rest) refl h.0 (set_ready n depth rest h.1)
    set_ready n depth (sequence t vr declared items rest) h =
        sequence_ready n (fate_as options depth AsItems t) t vr items (without_items items) (without depth rest) h.0 (λ g. items_ready (suc n) items (h.0 g).3) (set_ready n depth rest h.1)
    set_ready n depth (fragments t vr parts rest) h = fragments_ready n (fate_as options depth AsBytes t) t vr parts (without depth rest) h.0 (set_ready n depth rest h.1)

    pub items_ready : (n : ℕ) (x : Items) → ReadyItems (plain s) n x → ReadyItems s n (without_items x)
    items_ready n no_item h = tt
    items_ready n (item declared set rest) h = (set_ready n Inside set h.0, items_ready n rest h.1)

  -- ---- what says what was done

  abbrev Puts : Trees → Type 0
  Puts element = (set : Trees) → Ready s 0 set → Ready s 0 (then_trees element set)

  set_if : (b : Bool) (x y : Trees) → Ready s 0 x → Ready s 0 y → Ready s 0 (if b then x else y)
  set_if true x y h k = h
  set_if false x y h k = k

  put_ready : (t : Tag) (element set : Trees) → Puts element → Ready s 0 element → Ready s 0 set → Ready s 0 (put_in t element set)
  unfolding Ready
  put_ready t element no_tree p e h = e
  put_ready t element (leaf tag vr value rest) p e h = set_if (below t tag) _ _ (p (leaf tag vr value rest) h) (h.0, put_ready t element rest p e h.1)
  put_ready t element (sequence tag vr declared items rest) p e h = set_if (below t tag) _ _ (p (sequence tag vr declared items rest) h) (h.0, put_ready t element rest p e h.1)
  put_ready t element (fragments tag vr parts rest) p e h = set_if (below t tag) _ _ (p (fragments tag vr parts rest) h) (h.0, put_ready t element rest p e h.1)

  abbrev ArePut : List (Tag × Trees) → Type 0
  ArePut [] = Unit {0}
  ArePut (new ∷ news) = Puts new.1 × Ready s 0 new.1 × ArePut news

  all_ready : (news : List (Tag × Trees)) (set : Trees) → ArePut news → Ready s 0 set → Ready s 0 (set_with_all news set)
  all_ready [] set p h = h
  all_ready (new ∷ news) set p h = all_ready news (set_with new set) p.2 (set_if _ set (put_in new.0 new.1 set) h (put_ready new.0 new.1 set p.0 p.1 h))

  -- a value of this tag
  abbrev IsValue : Tag → Vr → List ℕ → Type 0
  IsValue t vr v = IsElement t × (length v < 0xFFFFFFFF) × (form s (read_as s t (normal_vr s t vr (length v))) (Known (even (length v))) ≡ a_value)

  value_ready : (t : Tag) (vr : Vr) (v : List ℕ) → IsElement t → is_sequence (vr_in Standard t) ≡ false → vr ≢ SQ → length v < 0xFFFFFFFF → IsValue t vr v
  value_ready t vr v is none other short = (is, short, value_form s standard t vr (length v) (even (length v)) none (λ e. other))

  leaf_put : (t : Tag) (vr : Vr) (v : List ℕ) → IsValue t vr v → Puts (leaf t vr v no_tree) × Ready s 0 (leaf t vr v no_tree)
  unfolding Ready
  leaf_put t vr v h = (λ set k. (λ g. h, k), (λ g. h, tt))

  -- a code and its meaning
  code_ready : (code meaning : List ℕ) (rest : Items) → length code < 0xFFFFFFFF → length meaning < 0xFFFFFFFF → ReadyItems s 1 rest → ReadyItems s 1 (code_item code meaning rest)
  unfolding Ready
  code_ready code meaning rest short few h = (
    (
      λ g. value_ready (tag_at 0x0008 0x0100) SH code element_of_code code_value (λ k. cc) short,
      (
        λ g. value_ready (tag_at 0x0008 0x0102) SH (codes "DCM") element_of_scheme scheme_value (λ k. cc) (omega arith),
        (λ g. value_ready (tag_at 0x0008 0x0104) LO meaning element_of_meaning meaning_value (λ k. cc) few, tt),
      ),
    ),
    h,
  )

  code_if_ready : (b : Bool) (code meaning : List ℕ) (rest : Items) → length code < 0xFFFFFFFF → length meaning < 0xFFFFFFFF → ReadyItems s 1 rest → ReadyItems s 1 (code_if b code meaning rest)
  code_if_ready true code meaning rest short few h = code_ready code meaning rest short few h
  code_if_ready false code meaning rest short few h = h

  code_short : (t : Temporal) → length (dates_code t) < 0xFFFFFFFF
  code_short Removed = omega arith
  code_short Full = omega arith
  code_short (Modified days) = omega arith

  meaning_short : (t : Temporal) → length (dates_meaning t) < 0xFFFFFFFF
  meaning_short Removed = omega arith
  meaning_short Full = omega arith
  meaning_short (Modified days) = omega arith

  methods_ready : ReadyItems s 1 (methods options)
  unfolding Ready
  methods_ready =
      code_ready (codes "113100") (codes "Basic Application Confidentiality Profile") _ (omega arith) (omega arith)
      (code_if_ready (are_left options.dates) (dates_code options.dates) (dates_meaning options.dates) _ (code_short options.dates) (meaning_short options.dates)
      (code_if_ready options.patient (codes "113108") (codes "Retain Patient Characteristics Option") _ (omega arith) (omega arith)
      (code_if_ready options.device (codes "113109") (codes "Retain Device Identity Option") _ (omega arith) (omega arith)
      (code_if_ready options.uids (codes "113110") (codes "Retain UIDs Option") _ (omega arith) (omega arith)
      (code_if_ready options.institution (codes "113112") (codes "Retain Institution Identity Option") _ (omega arith) (omega arith) tt)))))

  method_form : (s : Syntax) → dictionary_of s ≡ Standard → form s (normal_sequence_vr s method_tag) Undefined ≡ a_sequence
  unfolding form
  method_form (implicit_in d) is = ap (λ (k : Dictionary). form (implicit_in d) (vr_in k method_tag) Undefined) is ∙ ap (λ (vr : Vr). form (implicit_in d) vr Undefined) method_vr
  method_form (little_in d) is = refl
  method_form (big_in d) is = refl

  methods_put : Puts (sequence method_tag SQ Undefined (methods options) no_tree) × Ready s 0 (sequence method_tag SQ Undefined (methods options) no_tree)
  unfolding Ready
  methods_put =
      let form_is = method_form s standard in
      (λ set k. (λ g. (element_of_method, omega arith, form_is, methods_ready), k), (λ g. (element_of_method, omega arith, form_is, methods_ready), tt))

  dates_short : (t : Temporal) → length (dates_became t) < 0xFFFFFFFF
  dates_short Removed = omega arith
  dates_short Full = omega arith
  dates_short (Modified days) = omega arith

  said_put : ArePut (said options)
  said_put =
      let one = leaf_put (tag_at 0x0012 0x0062) CS (codes "YES") (value_ready (tag_at 0x0012 0x0062) CS (codes "YES") element_of_removed removed_value (λ k. cc) (omega arith)) in
      let two = leaf_put (tag_at 0x0012 0x0063) LO (codes "dcmtools dcmdeid, PS3.15 2021b") (value_ready (tag_at 0x0012 0x0063) LO (codes "dcmtools dcmdeid, PS3.15 2021b") element_of_text text_value (λ k. cc) (omega arith)) in
      let four = leaf_put (tag_at 0x0028 0x0303) CS (dates_said options) (value_ready (tag_at 0x0028 0x0303) CS (dates_said options) element_of_dates dates_value (λ k. cc) (dates_short options.dates)) in
      (one.0, one.1, (two.0, two.1, (methods_put.0, methods_put.1, (four.0, four.1, tt))))

  pub left_ready : (x : Trees) → Ready (plain s) 0 x → Ready s 0 (set_with_all (said options) (without Outermost x))
  left_ready x h = all_ready (said options) (without Outermost x) said_put (set_ready 0 Outermost x h)

-- ---- to the extract, an explicit data set has the same room

leaf_plain : (s : Syntax) (t : Tag) (vr : Vr) (n m : ℕ) → form s (read_as s t (normal_vr s t vr n)) (Known m) ≡ a_value → form (plain s) (read_as (plain s) t (normal_vr (plain s) t vr n)) (Known m) ≡ a_value
leaf_plain (implicit_in d) t vr n m h = h
leaf_plain (little_in d) t vr n m h = let w : Vr = normal_vr (little_in d) t vr n in value_known (little_in Extract) w m (spelled_no_sequence (little_in d) t w m h)
leaf_plain (big_in d) t vr n m h = let w : Vr = normal_vr (big_in d) t vr n in value_known (big_in Extract) w m (spelled_no_sequence (big_in d) t w m h)

sequence_plain : (s : Syntax) (t : Tag) → form s (normal_sequence_vr s t) Undefined ≡ a_sequence → form (plain s) (normal_sequence_vr (plain s) t) Undefined ≡ a_sequence
unfolding form
sequence_plain (implicit_in d) t h = h
sequence_plain (little_in d) t h = refl
sequence_plain (big_in d) t h = refl

fragments_plain : (s : Syntax) (vr : Vr) → holds_fragments s ≡ true → form s vr Undefined ≡ a_fragment_list → (holds_fragments (plain s) ≡ true) × (form (plain s) vr Undefined ≡ a_fragment_list)
fragments_plain (implicit_in d) vr holds h = absurd (cc)
fragments_plain (little_in d) vr holds h = (refl, little_fragments d Extract vr h)
fragments_plain (big_in d) vr holds h = absurd (cc)

mutual
  unfolding Ready

  pub plain_ready : (s : Syntax) (n : ℕ) (x : Trees) → Ready s n x → Ready (plain s) n x
  plain_ready s n no_tree h = tt
  plain_ready s n (leaf t vr v rest) h = (λ g. ((h.0 g).0, (h.0 g).1, leaf_plain s t vr (length v) _ (h.0 g).2), plain_ready s n rest h.1)
  plain_ready s n (sequence t vr declared items rest) h =
      (λ g. ((h.0 g).0, (h.0 g).1, sequence_plain s t (h.0 g).2, plain_items_ready s (suc n) items (h.0 g).3), plain_ready s n rest h.1)
  plain_ready s n (fragments t vr parts rest) h =
      (λ g. let two = fragments_plain s vr (h.0 g).2 (h.0 g).3 in ((h.0 g).0, (h.0 g).1, two.0, two.1, (h.0 g).4), plain_ready s n rest h.1)

  plain_items_ready : (s : Syntax) (n : ℕ) (x : Items) → ReadyItems s n x → ReadyItems (plain s) n x
  plain_items_ready s n no_item h = tt
  plain_items_ready s n (item declared set rest) h = (plain_ready s n set h.0, plain_items_ready s n rest h.1)
