-- Whom a whole data set names, by its atoms.
use Rattle.std.proofs.Common.{◌≡◌, ◌∙◌, ap, sym, refl, subst, ℕ, zero, suc, ◌*◌, ◌<◌, ◌≤◌, List, [], ◌∷◌, ◌++◌, length, take, drop, Bool, true, false, arith, Option, Some, None, inl, inr, ◌⊎◌, if◌then◌else◌}
use Rattle.std.specs.Prelude.{fold, map, nat_le, ◌&&◌}
use Rattle.std.specs.Option.{option_map_or}
use Rattle.std.proofs.lemmas.Bool.{leb-true}
use Rattle.std.proofs.lemmas.List.{length-take, length-drop, take-append-drop}
use Rattle.std.proofs.lemmas.List.Sums.{fold-append}
use Rattle.dcm_lemmas.proofs.Truth.{and_false}
use Rattle.dcm_base.specs.declared.form.Form.{Form}
use Rattle.dcm_base.specs.declared.form.Form.TheVariants.{Value as a_value, Sequence as a_sequence, FragmentList as a_fragment_list}
use Rattle.dcm_base.specs.declared.length.Length.{Length}
use Rattle.dcm_base.specs.declared.length.Length.TheVariants.{Known, Undefined}
use Rattle.dcm_base.specs.declared.syntax.Syntax.{Syntax}
use Rattle.dcm_base.specs.declared.tag.Tag.{Tag}
use Rattle.dcm_base.specs.declared.vr.Vr.{Vr}
use Rattle.dcm_base.specs.Lines.Ascending.{Ascend}
use Rattle.dcm_base.specs.Reading.Bars.{PATIENT_ID}
use Rattle.dcm_base.specs.Steps.Atoms.{Atom, opens, value_byte, closes_leaf, opens_item, closes_item, closes_sequence, ends, fragments_then, ShowTrees, ShowItems}
use Rattle.dcm_base.specs.Tables.Tag.{below, same_tag}
use Rattle.dcm_base.specs.Tables.Transfer.{without_pads}
use Rattle.dcm_base.specs.Tree.Tree.{Trees, no_tree, leaf, sequence, fragments, Items, no_item, item}
use Rattle.dcm_base.specs.Tree.Value.{order}
use Rattle.dcm_base.proofs.Conversions.Order.{order_twice}
use Rattle.dcm_base.proofs.Dictionaries.TagOrder.{below_other_way, below_trans, tag_is}
use Rattle.dcm_sinks.specs.Laws.{StaysShallow}
use Rattle.dcm_sinks.proofs.Dumps.OpenLists.{stays_bytes, stays_fragments, stays_items, stays_on, stays_opened, stays_same, stays_trees}
use Rattle.dcm_stream.specs.Skip.{opened}
use Rattle.dcm_uid.specs.Pseudonym.{patient, patient_of, without_spaces_before}
use Rattle.dcm_deid.specs.declared.fate.Fate.TheVariants.{Keep}
use Rattle.dcm_deid.specs.declared.patient.Naming.{Naming}
use Rattle.dcm_deid.specs.declared.patient.Naming.TheVariants.{NotYet, Opened, Ended, Nobody}
use Rattle.dcm_deid.specs.DeidentifySink.{Held, form_after, held_with, nothing_held}
use Rattle.dcm_deid.specs.Patient.{PatientState, at_depth, at_head, held_where, looks_at, names_patient, naming_at, naming_ended, patient_held, patient_next}
use Rattle.dcm_deid.specs.Uids.{unpadded}
use Rattle.dcm_deid.proofs.HeldValues.{held_whole, longer_after, more_left, pads_after, pads_gone, some_left, some_more}
use Rattle.dcm_deid.proofs.PatientSteps.{bytes_held}

-- ---- the value

by_length : (v : List ℕ) (t : Bool) → t ≡ longer_after false (drop 256 v) → (if t then [] else patient (take 256 v)) ≡ patient_of (without_pads v)
unfolding patient
by_length v false e = ap patient_of (sym (pads_after (take 256 v) (drop 256 v) (pads_gone (drop 256 v) false (sym e)).1) ∙ ap without_pads (take-append-drop 256 v))
by_length v true e =
    let some : 0 < length (drop 256 v) = some_more (drop 256 v) (sym e) in
    let full : length (take 256 v) ≡ 256 = omega (arith, length-take 256 v, length-drop 256 v, some) in
    let long : length (take 256 v) < length (without_pads v) = subst (λ (x : List ℕ). length (take 256 v) < length (without_pads x)) (take-append-drop 256 v) (more_left (take 256 v) (drop 256 v) (some_left (drop 256 v) (sym e))) in
    too_long (without_pads v) (nat_le (length (without_pads v)) 256) refl (omega (arith, full, long))
  where
    too_long : (b : List ℕ) (c : Bool) → nat_le (length b) 256 ≡ c → 256 < length b → [] ≡ patient_of b
    too_long b true is h = let few = leb-true (length b) 256 is in absurd (omega (arith, few, h))
    too_long b false is h = sym (ap (λ (c : Bool). if c then without_spaces_before b else []) is)

pub value_names : (tag : Tag) (vr : Vr) (s : Syntax) (v : List ℕ) → patient_held (fold held_with (nothing_held Keep tag vr s) (order s vr v)) ≡ patient_of (without_pads v)
value_names tag vr s v =
    ap patient_held (held_whole Keep tag vr s v)
    ∙ ap (λ (x : List ℕ). if longer_after false (drop 256 v) then [] else patient x) (order_twice s vr (take 256 v))
    ∙ by_length v (longer_after false (drop 256 v)) refl

-- ---- what changes nothing

abbrev pub at : ℕ → Naming → Held → PatientState
at d n h = record { depth = d; naming = n; held = h }

-- no value is open of which bytes are held
abbrev pub NotOpen : Naming → Type 0
NotOpen NotYet = Unit {0}
NotOpen Opened = ⊥
NotOpen Ended = Unit {0}
NotOpen Nobody = Unit {0}

pub not_held : (n : Naming) (h : Held) (v : List ℕ) → NotOpen n → held_where n h v ≡ h
not_held NotYet h v k = refl
not_held Opened h v k = absurd k
not_held Ended h v k = refl
not_held Nobody h v k = refl

not_ended : (n : Naming) → NotOpen n → naming_ended n ≡ n
not_ended NotYet k = refl
not_ended Opened k = absurd k
not_ended Ended k = refl
not_ended Nobody k = refl

pub opened_is : (d : ℕ) → d ≤ 200 → opened d true ≡ suc d
opened_is zero h = refl
opened_is (suc k) h = omega (arith, h)

module _ (n : Naming) (h : Held) (closed_one : NotOpen n) where
  pub bytes_pass : (d : ℕ) (v : List ℕ) (others : List Atom) → fold patient_next (at d n h) (map value_byte v ++ others) ≡ fold patient_next (at d n h) others
  bytes_pass d v others =
      fold-append patient_next (at d n h) (map value_byte v) others
      ∙ ap (λ (p : PatientState). fold patient_next p others) (bytes_held v d n h ∙ ap (at d n) (not_held n h v closed_one))

  pub leaf_closes : (d : ℕ) (others : List Atom) → fold patient_next (at (suc d) n h) (closes_leaf ∷ others) ≡ fold patient_next (at d n h) others
  leaf_closes d others = ap (λ (m : Naming). fold patient_next (at d m h) others) (not_ended n closed_one)

  head_passes : (d : ℕ) (tag : Tag) (vr : Vr) (l : Length) (s : Syntax) → d ≤ 200 → looks_at d n ≡ false → patient_next (at d n h) (opens tag vr l s) ≡ at (suc d) n h
  head_passes d tag vr l s few looks =
      ap (λ (b : Bool). at_depth (opened d true) (if b then at_head (at d n h) tag vr l s else at d n h)) looks ∙ ap (λ (k : ℕ). at k n h) (opened_is d few)

  pub into : (d : ℕ) (tag : Tag) (vr : Vr) (l : Length) (s : Syntax) (others : List Atom) → d ≤ 200 → looks_at d n ≡ false → fold patient_next (at d n h) (opens tag vr l s ∷ others) ≡ fold patient_next (at (suc d) n h) others
  into d tag vr l s others few looks = ap (λ (p : PatientState). fold patient_next p others) (head_passes d tag vr l s few looks)

  pub fragments_pass : (d : ℕ) (values : List (List ℕ)) (others : List Atom) → d ≤ 200 → fold patient_next (at d n h) (fragments_then values others) ≡ fold patient_next (at d n h) others
  unfolding fragments_then
  fragments_pass d [] others few = refl
  fragments_pass d (v ∷ values) others few =
      ap (λ (k : ℕ). fold patient_next (at k n h) (map value_byte v ++ closes_leaf ∷ fragments_then values others)) (opened_is d few)
      ∙ bytes_pass (suc d) v (closes_leaf ∷ fragments_then values others)
      ∙ leaf_closes d (fragments_then values others)
      ∙ fragments_pass d values others few

  mutual
    unfolding ShowTrees

    pub trees_pass : (x : Trees) (lists d : ℕ) (atoms after : List Atom) → ShowTrees x atoms after → StaysShallow lists atoms → d ≤ 2 * lists → looks_at d n ≡ false → fold patient_next (at d n h) atoms ≡ fold patient_next (at d n h) after
    trees_pass no_tree lists d atoms after w k le looks = ap (fold patient_next (at d n h)) w
    trees_pass (leaf tag vr value rest) lists d atoms after w k le looks =
        let few : lists ≤ 64 = k [] atoms refl in
        let v : List ℕ = order w.0 vr value in
        let more : StaysShallow lists w.1 = stays_on lists closes_leaf w.1 (stays_bytes lists v (closes_leaf ∷ w.1) (stays_opened lists a_value tag vr (Known (length value)) w.0 (map value_byte v ++ closes_leaf ∷ w.1) w.2 (stays_same lists atoms _ w.3 k))) in
        ap (fold patient_next (at d n h)) w.3
        ∙ into d tag vr (Known (length value)) w.0 (map value_byte v ++ closes_leaf ∷ w.1) (omega (arith, few, le)) looks
        ∙ bytes_pass (suc d) v (closes_leaf ∷ w.1)
        ∙ leaf_closes d w.1
        ∙ trees_pass rest lists d w.1 after w.4 more le looks
    trees_pass (sequence tag vr declared items rest) lists d atoms after w k le looks =
        let few : lists ≤ 64 = k [] atoms refl in
        let inner : StaysShallow (suc lists) w.1 = stays_opened lists a_sequence tag vr declared w.0 w.1 w.3 (stays_same lists atoms _ w.4 k) in
        let more : StaysShallow lists w.2 = stays_on (suc lists) closes_sequence w.2 (stays_items (suc lists) items w.1 (closes_sequence ∷ w.2) w.5 inner) in
        ap (fold patient_next (at d n h)) w.4
        ∙ into d tag vr declared w.0 w.1 (omega (arith, few, le)) looks
        ∙ items_pass items lists d w.1 (closes_sequence ∷ w.2) w.5 inner le
        ∙ trees_pass rest lists d w.2 after w.6 more le looks
    trees_pass (fragments tag vr values rest) lists d atoms after w k le looks =
        let few : lists ≤ 64 = k [] atoms refl in
        let inner : StaysShallow (suc lists) (fragments_then values (closes_sequence ∷ w.1)) = stays_opened lists a_fragment_list tag vr Undefined w.0 (fragments_then values (closes_sequence ∷ w.1)) w.2 (stays_same lists atoms _ w.3 k) in
        let more : StaysShallow lists w.1 = stays_on (suc lists) closes_sequence w.1 (stays_fragments (suc lists) values (closes_sequence ∷ w.1) inner) in
        ap (fold patient_next (at d n h)) w.3
        ∙ into d tag vr Undefined w.0 (fragments_then values (closes_sequence ∷ w.1)) (omega (arith, few, le)) looks
        ∙ fragments_pass (suc d) values (closes_sequence ∷ w.1) (omega (arith, few, le))
        ∙ trees_pass rest lists d w.1 after w.4 more le looks

    pub items_pass : (x : Items) (lists d : ℕ) (atoms after : List Atom) → ShowItems x atoms after → StaysShallow (suc lists) atoms → d ≤ 2 * lists → fold patient_next (at (suc d) n h) atoms ≡ fold patient_next (at (suc d) n h) after
    items_pass no_item lists d atoms after w k le = ap (fold patient_next (at (suc d) n h)) w
    items_pass (item declared set rest) lists d atoms after w k le =
        let few : suc lists ≤ 64 = k [] atoms refl in
        let inner : StaysShallow (suc lists) w.0 = stays_on (suc lists) (opens_item declared) w.0 (stays_same (suc lists) atoms _ w.2 k) in
        let more : StaysShallow (suc lists) w.1 = stays_on (suc lists) closes_item w.1 (stays_trees (suc lists) set w.0 (closes_item ∷ w.1) w.3 inner) in
        ap (fold patient_next (at (suc d) n h)) w.2
        ∙ ap (λ (j : ℕ). fold patient_next (at j n h) w.0) (opened_is (suc d) (omega (arith, few, le)))
        ∙ trees_pass set (suc lists) (suc (suc d)) w.0 (closes_item ∷ w.1) w.3 inner (omega (arith, le)) refl
        ∙ items_pass rest lists d w.1 after w.4 more le

-- ---- tags

pub first_tag_only : (t u : Tag) (c : Bool) → same_tag u PATIENT_ID ≡ c → below t u ≡ true → below t PATIENT_ID ≡ false → c ≡ false
first_tag_only t u true same above e = absurd (let is : below t PATIENT_ID ≡ true = sym (ap (below t) (tag_is u PATIENT_ID same)) ∙ above in let no : true ≡ false = sym is ∙ e in cc)
first_tag_only t u false same above e = refl

pub still_above : (t u : Tag) (c : Bool) → below u PATIENT_ID ≡ c → below t u ≡ true → below t PATIENT_ID ≡ false → c ≡ false
still_above t u true less above e = absurd (let is : below t PATIENT_ID ≡ true = below_trans t u PATIENT_ID above less in let no : true ≡ false = sym is ∙ e in cc)
still_above t u false less above e = refl

-- nothing that comes above PatientID is one
none_above : (t : Tag) (x : Trees) → Ascend (Some t) x → below t PATIENT_ID ≡ false → unpadded PATIENT_ID x ≡ None
none_above t no_tree a e = refl
none_above t (leaf u vr v rest) a e =
    ap (λ (c : Bool). if c then Some (without_pads v) else unpadded PATIENT_ID rest) (first_tag_only t u (same_tag u PATIENT_ID) refl a.0 e)
    ∙ none_above u rest a.1 (still_above t u (below u PATIENT_ID) refl a.0 e)
none_above t (sequence u vr declared items rest) a e = none_above u rest a.2 (still_above t u (below u PATIENT_ID) refl a.0 e)
none_above t (fragments u vr values rest) a e = none_above u rest a.1 (still_above t u (below u PATIENT_ID) refl a.0 e)

-- ---- whom it names

-- a state tells of this patient, or of nobody
abbrev pub Tells : PatientState → List ℕ → Type 0
Tells p named = ((p.naming ≡ Ended) × (patient_held p.held ≡ named)) ⊎ (((p.naming ≡ Nobody) ⊎ (p.naming ≡ NotYet)) × (named ≡ []))

abbrev pub named : Option (List ℕ) → List ℕ
named value = option_map_or patient_of value []

-- the head of an element of the outermost data set
pub head_told : (h : Held) (tag : Tag) (vr : Vr) (l : Length) (s : Syntax) (f : Form) (m : Naming) (others : List Atom) → form_after tag vr l s ≡ f → naming_at tag f ≡ m
    → fold patient_next (at 0 NotYet h) (opens tag vr l s ∷ others) ≡ fold patient_next (at 1 m (nothing_held Keep tag vr s)) others
head_told h tag vr l s f m others e is = ap (λ (g : Form). fold patient_next (at 1 (naming_at tag g) (nothing_held Keep tag vr s)) others) e ∙ ap (λ (k : Naming). fold patient_next (at 1 k (nothing_held Keep tag vr s)) others) is

pub is_not_yet : (tag : Tag) (f : Form) → below tag PATIENT_ID ≡ true → naming_at tag f ≡ NotYet
is_not_yet tag f e = ap (λ (c : Bool). if c then NotYet else if names_patient tag f then Opened else Nobody) e

pub is_opened : (tag : Tag) → below tag PATIENT_ID ≡ false → same_tag tag PATIENT_ID ≡ true → naming_at tag a_value ≡ Opened
is_opened tag e same =
    ap (λ (c : Bool). if c then NotYet else if names_patient tag a_value then Opened else Nobody) e
    ∙ ap (λ (c : Bool). if c && true then Opened else Nobody) same

pub is_nobody : (tag : Tag) (f : Form) → below tag PATIENT_ID ≡ false → names_patient tag f ≡ false → naming_at tag f ≡ Nobody
is_nobody tag f e other =
    ap (λ (c : Bool). if c then NotYet else if names_patient tag f then Opened else Nobody) e ∙ ap (λ (c : Bool). if c then Opened else Nobody) other

pub same_with : (c : Bool) → c ≡ false → (c && true) ≡ false
same_with true e = absurd (cc)
same_with false e = refl

-- nobody is named by what is above PatientID
nobody_told : (t : Tag) (x : Trees) (h : Held) (atoms : List Atom) → ShowTrees x atoms (ends ∷ []) → StaysShallow 0 atoms → Ascend (Some t) x → below t PATIENT_ID ≡ false → (p : PatientState) → p ≡ fold patient_next (at 0 Nobody h) atoms
    → Tells p (named (unpadded PATIENT_ID x))
nobody_told t x h atoms w k a e p is =
    let end : p ≡ at 0 Nobody h = is ∙ trees_pass Nobody h tt x 0 0 atoms (ends ∷ []) w k (omega arith) refl in
    inr (inl (ap (λ (q : PatientState). q.naming) end), ap named (none_above t x a e))

abbrev MoreTold : Trees → Type 0
MoreTold rest = (h : Held) (atoms : List Atom) → ShowTrees rest atoms (ends ∷ []) → StaysShallow 0 atoms → Tells (fold patient_next (at 0 NotYet h) atoms) (named (unpadded PATIENT_ID rest))

leaf_told : (tag : Tag) (vr : Vr) (v : List ℕ) (rest : Trees) → MoreTold rest → (less same : Bool) → below tag PATIENT_ID ≡ less → same_tag tag PATIENT_ID ≡ same → (h : Held) (atoms : List Atom) → ShowTrees (leaf tag vr v rest) atoms (ends ∷ []) → StaysShallow 0 atoms → Ascend (Some tag) rest
    → Tells (fold patient_next (at 0 NotYet h) atoms) (named (if same_tag tag PATIENT_ID then Some (without_pads v) else unpadded PATIENT_ID rest))
unfolding ShowTrees
leaf_told tag vr v rest go true same e is h atoms w k a =
    let u : List ℕ = order w.0 vr v in
    let held : Held = nothing_held Keep tag vr w.0 in
    let more : StaysShallow 0 w.1 = stays_trees 0 (leaf tag vr v no_tree) atoms w.1 (w.0, w.1, w.2, w.3, refl) k in
    let steps : fold patient_next (at 0 NotYet h) atoms ≡ fold patient_next (at 0 NotYet held) w.1 =
    ap (fold patient_next (at 0 NotYet h)) w.3
    ∙ head_told h tag vr (Known (length v)) w.0 a_value NotYet (map value_byte u ++ closes_leaf ∷ w.1) w.2 (is_not_yet tag a_value e)
    ∙ bytes_pass NotYet held tt 1 u (closes_leaf ∷ w.1)
    in
    subst (λ (p : PatientState). Tells p (named (if same_tag tag PATIENT_ID then Some (without_pads v) else unpadded PATIENT_ID rest))) (sym steps)
    (subst (λ (c : Bool). Tells (fold patient_next (at 0 NotYet held) w.1) (named (if c then Some (without_pads v) else unpadded PATIENT_ID rest))) (sym (below_other_way tag PATIENT_ID e)) (go held w.1 w.4 more))
leaf_told tag vr v rest go false true e is h atoms w k a =
    let u : List ℕ = order w.0 vr v in
    let held : Held = nothing_held Keep tag vr w.0 in
    let all : Held = fold held_with held u in
    let more : StaysShallow 0 w.1 = stays_trees 0 (leaf tag vr v no_tree) atoms w.1 (w.0, w.1, w.2, w.3, refl) k in
    let steps : fold patient_next (at 0 NotYet h) atoms ≡ at 0 Ended all =
    ap (fold patient_next (at 0 NotYet h)) w.3
    ∙ head_told h tag vr (Known (length v)) w.0 a_value Opened (map value_byte u ++ closes_leaf ∷ w.1) w.2 (is_opened tag e is)
    ∙ fold-append patient_next (at 1 Opened held) (map value_byte u) (closes_leaf ∷ w.1)
    ∙ ap (λ (p : PatientState). fold patient_next p (closes_leaf ∷ w.1)) (bytes_held u 1 Opened held)
    ∙ trees_pass Ended all tt rest 0 0 w.1 (ends ∷ []) w.4 more (omega arith) refl
    in
    subst (λ (p : PatientState). Tells p (named (if same_tag tag PATIENT_ID then Some (without_pads v) else unpadded PATIENT_ID rest))) (sym steps)
    (inl (refl, value_names tag vr w.0 v ∙ ap (λ (c : Bool). named (if c then Some (without_pads v) else unpadded PATIENT_ID rest)) (sym is)))
leaf_told tag vr v rest go false false e is h atoms w k a =
    let u : List ℕ = order w.0 vr v in
    let held : Held = nothing_held Keep tag vr w.0 in
    let more : StaysShallow 0 w.1 = stays_trees 0 (leaf tag vr v no_tree) atoms w.1 (w.0, w.1, w.2, w.3, refl) k in
    let steps : fold patient_next (at 0 NotYet h) atoms ≡ fold patient_next (at 0 Nobody held) w.1 =
    ap (fold patient_next (at 0 NotYet h)) w.3
    ∙ head_told h tag vr (Known (length v)) w.0 a_value Nobody (map value_byte u ++ closes_leaf ∷ w.1) w.2 (is_nobody tag a_value e (same_with (same_tag tag PATIENT_ID) is))
    ∙ bytes_pass Nobody held tt 1 u (closes_leaf ∷ w.1)
    in
    subst (λ (c : Bool). Tells (fold patient_next (at 0 NotYet h) atoms) (named (if c then Some (without_pads v) else unpadded PATIENT_ID rest))) (sym is)
    (nobody_told tag rest held w.1 w.4 more a e (fold patient_next (at 0 NotYet h) atoms) steps)

sequence_told : (tag : Tag) (vr : Vr) (declared : Length) (items : Items) (rest : Trees) → MoreTold rest → (less : Bool) → below tag PATIENT_ID ≡ less → (h : Held) (atoms : List Atom) → ShowTrees (sequence tag vr declared items rest) atoms (ends ∷ []) → StaysShallow 0 atoms → Ascend (Some tag) rest
    → Tells (fold patient_next (at 0 NotYet h) atoms) (named (unpadded PATIENT_ID rest))
unfolding ShowTrees
sequence_told tag vr declared items rest go true e h atoms w k a =
    let held : Held = nothing_held Keep tag vr w.0 in
    let inner : StaysShallow 1 w.1 = stays_opened 0 a_sequence tag vr declared w.0 w.1 w.3 (stays_same 0 atoms _ w.4 k) in
    let more : StaysShallow 0 w.2 = stays_on 1 closes_sequence w.2 (stays_items 1 items w.1 (closes_sequence ∷ w.2) w.5 inner) in
    let steps : fold patient_next (at 0 NotYet h) atoms ≡ fold patient_next (at 0 NotYet held) w.2 =
    ap (fold patient_next (at 0 NotYet h)) w.4
    ∙ head_told h tag vr declared w.0 a_sequence NotYet w.1 w.3 (is_not_yet tag a_sequence e)
    ∙ items_pass NotYet held tt items 0 0 w.1 (closes_sequence ∷ w.2) w.5 inner (omega arith)
    in
    subst (λ (p : PatientState). Tells p (named (unpadded PATIENT_ID rest))) (sym steps) (go held w.2 w.6 more)
sequence_told tag vr declared items rest go false e h atoms w k a =
    let held : Held = nothing_held Keep tag vr w.0 in
    let inner : StaysShallow 1 w.1 = stays_opened 0 a_sequence tag vr declared w.0 w.1 w.3 (stays_same 0 atoms _ w.4 k) in
    let more : StaysShallow 0 w.2 = stays_on 1 closes_sequence w.2 (stays_items 1 items w.1 (closes_sequence ∷ w.2) w.5 inner) in
    let steps : fold patient_next (at 0 NotYet h) atoms ≡ fold patient_next (at 0 Nobody held) w.2 =
    ap (fold patient_next (at 0 NotYet h)) w.4
    ∙ head_told h tag vr declared w.0 a_sequence Nobody w.1 w.3 (is_nobody tag a_sequence e (and_false (same_tag tag PATIENT_ID)))
    ∙ items_pass Nobody held tt items 0 0 w.1 (closes_sequence ∷ w.2) w.5 inner (omega arith)
    in
    nobody_told tag rest held w.2 w.6 more a e (fold patient_next (at 0 NotYet h) atoms) steps

list_told : (tag : Tag) (vr : Vr) (values : List (List ℕ)) (rest : Trees) → MoreTold rest → (less : Bool) → below tag PATIENT_ID ≡ less → (h : Held) (atoms : List Atom) → ShowTrees (fragments tag vr values rest) atoms (ends ∷ []) → StaysShallow 0 atoms → Ascend (Some tag) rest
    → Tells (fold patient_next (at 0 NotYet h) atoms) (named (unpadded PATIENT_ID rest))
unfolding ShowTrees
list_told tag vr values rest go true e h atoms w k a =
    let held : Held = nothing_held Keep tag vr w.0 in
    let inner : StaysShallow 1 (fragments_then values (closes_sequence ∷ w.1)) = stays_opened 0 a_fragment_list tag vr Undefined w.0 (fragments_then values (closes_sequence ∷ w.1)) w.2 (stays_same 0 atoms _ w.3 k) in
    let more : StaysShallow 0 w.1 = stays_on 1 closes_sequence w.1 (stays_fragments 1 values (closes_sequence ∷ w.1) inner) in
    let steps : fold patient_next (at 0 NotYet h) atoms ≡ fold patient_next (at 0 NotYet held) w.1 =
    ap (fold patient_next (at 0 NotYet h)) w.3
    ∙ head_told h tag vr Undefined w.0 a_fragment_list NotYet (fragments_then values (closes_sequence ∷ w.1)) w.2 (is_not_yet tag a_fragment_list e)
    ∙ fragments_pass NotYet held tt 1 values (closes_sequence ∷ w.1) (omega arith)
    in
    subst (λ (p : PatientState). Tells p (named (unpadded PATIENT_ID rest))) (sym steps) (go held w.1 w.4 more)
list_told tag vr values rest go false e h atoms w k a =
    let held : Held = nothing_held Keep tag vr w.0 in
    let inner : StaysShallow 1 (fragments_then values (closes_sequence ∷ w.1)) = stays_opened 0 a_fragment_list tag vr Undefined w.0 (fragments_then values (closes_sequence ∷ w.1)) w.2 (stays_same 0 atoms _ w.3 k) in
    let more : StaysShallow 0 w.1 = stays_on 1 closes_sequence w.1 (stays_fragments 1 values (closes_sequence ∷ w.1) inner) in
    let steps : fold patient_next (at 0 NotYet h) atoms ≡ fold patient_next (at 0 Nobody held) w.1 =
    ap (fold patient_next (at 0 NotYet h)) w.3
    ∙ head_told h tag vr Undefined w.0 a_fragment_list Nobody (fragments_then values (closes_sequence ∷ w.1)) w.2 (is_nobody tag a_fragment_list e (and_false (same_tag tag PATIENT_ID)))
    ∙ fragments_pass Nobody held tt 1 values (closes_sequence ∷ w.1) (omega arith)
    in
    nobody_told tag rest held w.1 w.4 more a e (fold patient_next (at 0 NotYet h) atoms) steps

pub told : (last : Option Tag) (x : Trees) (h : Held) (atoms : List Atom) → ShowTrees x atoms (ends ∷ []) → StaysShallow 0 atoms → Ascend last x → Tells (fold patient_next (at 0 NotYet h) atoms) (named (unpadded PATIENT_ID x))
unfolding ShowTrees
told last no_tree h atoms w k a = subst (λ (p : PatientState). Tells p []) (sym (ap (fold patient_next (at 0 NotYet h)) w)) (inr (inr refl, refl))
told last (leaf tag vr v rest) h atoms w k a = leaf_told tag vr v rest (λ g xs u l. told (Some tag) rest g xs u l a.1) (below tag PATIENT_ID) (same_tag tag PATIENT_ID) refl refl h atoms w k a.1
told last (sequence tag vr declared items rest) h atoms w k a = sequence_told tag vr declared items rest (λ g xs u l. told (Some tag) rest g xs u l a.2) (below tag PATIENT_ID) refl h atoms w k a.2
told last (fragments tag vr values rest) h atoms w k a = list_told tag vr values rest (λ g xs u l. told (Some tag) rest g xs u l a.1) (below tag PATIENT_ID) refl h atoms w k a.1
