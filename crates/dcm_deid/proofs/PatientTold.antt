-- The sink that notes whom PatientID names knows whether that is nobody.
use Rattle.std.proofs.Common.{◌≡◌, ◌∙◌, ap, sym, refl, ℕ, List, ◌∷◌, ◌++◌, length, Bool, true, false, arith, if◌then◌else◌}
use Rattle.std.specs.Prelude.{fold, map, ◌&&◌, not}
use Rattle.std.proofs.lemmas.List.Sums.{fold-append}
use Rattle.dcm_lemmas.proofs.Truth.{and_false}
use Rattle.dcm_base.specs.declared.form.Form.TheVariants.{Value as a_value, Sequence as a_sequence, FragmentList as a_fragment_list}
use Rattle.dcm_base.specs.declared.length.Length.{Length}
use Rattle.dcm_base.specs.declared.length.Length.TheVariants.{Known, Undefined}
use Rattle.dcm_base.specs.declared.tag.Tag.{Tag}
use Rattle.dcm_base.specs.declared.vr.Vr.{Vr}
use Rattle.dcm_base.specs.declared.vr.Vr.TheVariants.{LO}
use Rattle.dcm_base.specs.Reading.Bars.{PATIENT_ID}
use Rattle.dcm_base.specs.Steps.Atoms.{Atom, value_byte, closes_leaf, closes_sequence, end_atoms, fragments_then, is_closed, open_fragment_atoms, MayEnd, ShowTrees, Shows, ShowsOpen}
use Rattle.dcm_base.specs.Tables.Syntax.{Little}
use Rattle.dcm_base.specs.Tables.Tag.{below, same_tag}
use Rattle.dcm_base.specs.Tree.Front.{Front, front, OpenTree, nothing_open, open_leaf, open_sequence, open_fragments}
use Rattle.dcm_base.specs.Tree.Tree.{Trees, no_tree, leaf, sequence, fragments, Items}
use Rattle.dcm_base.specs.Tree.Value.{order}
use Rattle.dcm_sinks.specs.Laws.{StaysShallow}
use Rattle.dcm_sinks.proofs.Dumps.OpenLists.{stays_fragments, stays_items, stays_on, stays_opened, stays_same, stays_trees}
use Rattle.dcm_uid.specs.Pseudonym.{patient}
use Rattle.dcm_deid.specs.declared.fate.Fate.TheVariants.{Keep}
use Rattle.dcm_deid.specs.declared.patient.Naming.{Naming}
use Rattle.dcm_deid.specs.declared.patient.Naming.TheVariants.{NotYet, Opened, Ended, Nobody}
use Rattle.dcm_deid.specs.DeidentifySink.{Held, held_with, nothing_held}
use Rattle.dcm_deid.specs.Patient.{PatientState, looks_at, naming_at, patient_begun, patient_held, patient_next}
use Rattle.dcm_deid.specs.Unnamed.{is_nobody, names_nobody, open_unnamed, trees_unnamed, value_unnamed}
use Rattle.dcm_deid.specs.WithPatient.{naming_unnamed, state_unnamed}
use Rattle.dcm_deid.proofs.PatientSteps.{bytes_held}
use Rattle.dcm_deid.proofs.PatientAtoms.{NotOpen, at, bytes_pass, fragments_pass, head_told, is_nobody as names_none, is_not_yet, is_opened, items_pass, same_with, trees_pass, value_names}
use Rattle.dcm_deid.proofs.PatientOpen.{Stays, end_stays, fragment_stays, item_stays, open_stays}

-- ---- by what is open

leaf_by : (less same : Bool) (named : List ℕ) → naming_unnamed (if less then NotYet else if same && true then Opened else Nobody) named false ≡ (not less && not same)
leaf_by true same named = refl
leaf_by false true named = refl
leaf_by false false named = refl

list_by : (less same : Bool) (named : List ℕ) → naming_unnamed (if less then NotYet else if same && false then Opened else Nobody) named false ≡ not less
list_by true same named = refl
list_by false true named = refl
list_by false false named = refl

not_open_by : (a b : Bool) → NotOpen (if a then NotYet else if b && false then Opened else Nobody)
not_open_by true b = tt
not_open_by false true = tt
not_open_by false false = tt

-- what is open later changes nothing
stays_so : (b : Bool) (n : Naming) (h : Held) (closed_one : NotOpen n) (p : PatientState) → Stays n h closed_one p → state_unnamed p b ≡ naming_unnamed n (patient_held h) b
stays_so b n h closed_one p (k, is) = ap (λ (q : PatientState). state_unnamed q b) is

open_told : (o : OpenTree) (b : Bool) (h : Held) (atoms : List Atom) → ShowsOpen o (end_atoms b) atoms → StaysShallow 0 atoms → MayEnd o b → state_unnamed (fold patient_next (at 0 NotYet h) atoms) b ≡ open_unnamed o b
unfolding Shows
open_told nothing_open b h atoms w k may = ap (λ (p : PatientState). state_unnamed p b) (ap (fold patient_next (at 0 NotYet h)) w ∙ end_stays b (at 0 NotYet h))
open_told (open_leaf tag vr size v) true h atoms w k may = absurd (let no : open_leaf tag vr size v ≡ nothing_open = may in cc)
open_told (open_leaf tag vr size v) false h atoms w k may =
    let u : List ℕ = order w.0 vr v in
    let held : Held = nothing_held Keep tag vr w.0 in
    let m : Naming = naming_at tag a_value in
    ap (λ (p : PatientState). state_unnamed p false)
    (ap (fold patient_next (at 0 NotYet h)) w.3
    ∙ head_told h tag vr (Known size) w.0 a_value m (map value_byte u) w.1 refl
    ∙ bytes_held u 1 m held)
    ∙ leaf_by (below tag PATIENT_ID) (same_tag tag PATIENT_ID) _
open_told (open_sequence tag vr declared items last) true h atoms w k may = absurd (let no : open_sequence tag vr declared items last ≡ nothing_open = may in cc)
open_told (open_sequence tag vr declared items last) false h atoms w k may =
    let held : Held = nothing_held Keep tag vr w.0 in
    let m : Naming = naming_at tag a_sequence in
    let plain : NotOpen m = not_open_by (below tag PATIENT_ID) (same_tag tag PATIENT_ID) in
    let inner : StaysShallow 1 w.1 = stays_opened 0 a_sequence tag vr declared w.0 w.1 w.3 (stays_same 0 atoms _ w.4 k) in
    ap (λ (p : PatientState). state_unnamed p false)
    (ap (fold patient_next (at 0 NotYet h)) w.4
    ∙ head_told h tag vr declared w.0 a_sequence m w.1 w.3 refl
    ∙ items_pass m held plain items 0 0 w.1 w.2 w.5 inner (omega arith))
    ∙ stays_so false m held plain _ (item_stays m held plain last 0 0 w.2 w.6 (stays_items 1 items w.1 w.2 w.5 inner) (omega arith))
    ∙ list_by (below tag PATIENT_ID) (same_tag tag PATIENT_ID) _
open_told (open_fragments tag vr values last) true h atoms w k may = absurd (let no : open_fragments tag vr values last ≡ nothing_open = may in cc)
open_told (open_fragments tag vr values last) false h atoms w k may =
    let held : Held = nothing_held Keep tag vr w.0 in
    let m : Naming = naming_at tag a_fragment_list in
    let plain : NotOpen m = not_open_by (below tag PATIENT_ID) (same_tag tag PATIENT_ID) in
    ap (λ (p : PatientState). state_unnamed p false)
    (ap (fold patient_next (at 0 NotYet h)) w.3
    ∙ head_told h tag vr Undefined w.0 a_fragment_list m (fragments_then values (open_fragment_atoms last)) w.1 refl
    ∙ fragments_pass m held plain 1 values (open_fragment_atoms last) (omega arith))
    ∙ stays_so false m held plain _ (fragment_stays m held plain 1 last (omega arith))
    ∙ list_by (below tag PATIENT_ID) (same_tag tag PATIENT_ID) _

-- ---- by the elements before it

module _ (o : OpenTree) (b : Bool) (after : List Atom) (shows : ShowsOpen o (end_atoms b) after) (few : StaysShallow 0 after) (may : MayEnd o b) where
  abbrev says : PatientState → Bool
  says p = state_unnamed p b

  abbrev behind : Bool
  behind = open_unnamed o b

  -- once it is known it stays
  stays_told : (n : Naming) (h : Held) (closed_one : NotOpen n) → looks_at 0 n ≡ false → (x : Trees) (atoms : List Atom) → ShowTrees x atoms after → StaysShallow 0 atoms
      → says (fold patient_next (at 0 n h) atoms) ≡ naming_unnamed n (patient_held h) b
  stays_told n h closed_one looks x atoms w k =
      ap says (trees_pass n h closed_one x 0 0 atoms after w k (omega arith) looks) ∙ stays_so b n h closed_one _ (open_stays n h closed_one o 0 0 b after shows few (omega arith) looks)

  abbrev MoreTold : Trees → Type 0
  MoreTold rest = (h : Held) (atoms : List Atom) → ShowTrees rest atoms after → StaysShallow 0 atoms → says (fold patient_next (at 0 NotYet h) atoms) ≡ trees_unnamed rest behind

  leaf_told : (tag : Tag) (vr : Vr) (v : List ℕ) (rest : Trees) → MoreTold rest → (less same : Bool) → below tag PATIENT_ID ≡ less → same_tag tag PATIENT_ID ≡ same → (h : Held) (atoms : List Atom) → ShowTrees (leaf tag vr v rest) atoms after → StaysShallow 0 atoms
      → says (fold patient_next (at 0 NotYet h) atoms) ≡ trees_unnamed (leaf tag vr v rest) behind
  unfolding ShowTrees patient
  leaf_told tag vr v rest go true same e is h atoms w k =
      let u : List ℕ = order w.0 vr v in
      let held : Held = nothing_held Keep tag vr w.0 in
      let more : StaysShallow 0 w.1 = stays_trees 0 (leaf tag vr v no_tree) atoms w.1 (w.0, w.1, w.2, w.3, refl) k in
      ap says
      (ap (fold patient_next (at 0 NotYet h)) w.3
      ∙ head_told h tag vr (Known (length v)) w.0 a_value NotYet (map value_byte u ++ closes_leaf ∷ w.1) w.2 (is_not_yet tag a_value e)
      ∙ bytes_pass NotYet held tt 1 u (closes_leaf ∷ w.1))
      ∙ go held w.1 w.4 more
      ∙ sym (ap (λ (c : Bool). if c then trees_unnamed rest behind else value_unnamed tag v) e)
  leaf_told tag vr v rest go false true e is h atoms w k =
      let u : List ℕ = order w.0 vr v in
      let held : Held = nothing_held Keep tag vr w.0 in
      let all : Held = fold held_with held u in
      let more : StaysShallow 0 w.1 = stays_trees 0 (leaf tag vr v no_tree) atoms w.1 (w.0, w.1, w.2, w.3, refl) k in
      ap says
      (ap (fold patient_next (at 0 NotYet h)) w.3
      ∙ head_told h tag vr (Known (length v)) w.0 a_value Opened (map value_byte u ++ closes_leaf ∷ w.1) w.2 (is_opened tag e is)
      ∙ fold-append patient_next (at 1 Opened held) (map value_byte u) (closes_leaf ∷ w.1)
      ∙ ap (λ (p : PatientState). fold patient_next p (closes_leaf ∷ w.1)) (bytes_held u 1 Opened held))
      ∙ stays_told Ended all tt refl rest w.1 w.4 more
      ∙ ap is_nobody (value_names tag vr w.0 v)
      ∙ sym (ap (λ (c : Bool). if c then is_nobody (patient v) else true) is)
      ∙ sym (ap (λ (c : Bool). if c then trees_unnamed rest behind else value_unnamed tag v) e)
  leaf_told tag vr v rest go false false e is h atoms w k =
      let u : List ℕ = order w.0 vr v in
      let held : Held = nothing_held Keep tag vr w.0 in
      let more : StaysShallow 0 w.1 = stays_trees 0 (leaf tag vr v no_tree) atoms w.1 (w.0, w.1, w.2, w.3, refl) k in
      ap says
      (ap (fold patient_next (at 0 NotYet h)) w.3
      ∙ head_told h tag vr (Known (length v)) w.0 a_value Nobody (map value_byte u ++ closes_leaf ∷ w.1) w.2 (names_none tag a_value e (same_with (same_tag tag PATIENT_ID) is))
      ∙ bytes_pass Nobody held tt 1 u (closes_leaf ∷ w.1))
      ∙ stays_told Nobody held tt refl rest w.1 w.4 more
      ∙ sym (ap (λ (c : Bool). if c then is_nobody (patient v) else true) is)
      ∙ sym (ap (λ (c : Bool). if c then trees_unnamed rest behind else value_unnamed tag v) e)

  sequence_told : (tag : Tag) (vr : Vr) (declared : Length) (items : Items) (rest : Trees) → MoreTold rest → (less : Bool) → below tag PATIENT_ID ≡ less → (h : Held) (atoms : List Atom) → ShowTrees (sequence tag vr declared items rest) atoms after → StaysShallow 0 atoms
      → says (fold patient_next (at 0 NotYet h) atoms) ≡ trees_unnamed (sequence tag vr declared items rest) behind
  unfolding ShowTrees
  sequence_told tag vr declared items rest go true e h atoms w k =
      let held : Held = nothing_held Keep tag vr w.0 in
      let inner : StaysShallow 1 w.1 = stays_opened 0 a_sequence tag vr declared w.0 w.1 w.3 (stays_same 0 atoms _ w.4 k) in
      let more : StaysShallow 0 w.2 = stays_on 1 closes_sequence w.2 (stays_items 1 items w.1 (closes_sequence ∷ w.2) w.5 inner) in
      ap says
      (ap (fold patient_next (at 0 NotYet h)) w.4
      ∙ head_told h tag vr declared w.0 a_sequence NotYet w.1 w.3 (is_not_yet tag a_sequence e)
      ∙ items_pass NotYet held tt items 0 0 w.1 (closes_sequence ∷ w.2) w.5 inner (omega arith))
      ∙ go held w.2 w.6 more
      ∙ sym (ap (λ (c : Bool). if c then trees_unnamed rest behind else true) e)
  sequence_told tag vr declared items rest go false e h atoms w k =
      let held : Held = nothing_held Keep tag vr w.0 in
      let inner : StaysShallow 1 w.1 = stays_opened 0 a_sequence tag vr declared w.0 w.1 w.3 (stays_same 0 atoms _ w.4 k) in
      let more : StaysShallow 0 w.2 = stays_on 1 closes_sequence w.2 (stays_items 1 items w.1 (closes_sequence ∷ w.2) w.5 inner) in
      ap says
      (ap (fold patient_next (at 0 NotYet h)) w.4
      ∙ head_told h tag vr declared w.0 a_sequence Nobody w.1 w.3 (names_none tag a_sequence e (and_false (same_tag tag PATIENT_ID)))
      ∙ items_pass Nobody held tt items 0 0 w.1 (closes_sequence ∷ w.2) w.5 inner (omega arith))
      ∙ stays_told Nobody held tt refl rest w.2 w.6 more
      ∙ sym (ap (λ (c : Bool). if c then trees_unnamed rest behind else true) e)

  list_told : (tag : Tag) (vr : Vr) (values : List (List ℕ)) (rest : Trees) → MoreTold rest → (less : Bool) → below tag PATIENT_ID ≡ less → (h : Held) (atoms : List Atom) → ShowTrees (fragments tag vr values rest) atoms after → StaysShallow 0 atoms
      → says (fold patient_next (at 0 NotYet h) atoms) ≡ trees_unnamed (fragments tag vr values rest) behind
  unfolding ShowTrees
  list_told tag vr values rest go true e h atoms w k =
      let held : Held = nothing_held Keep tag vr w.0 in
      let inner : StaysShallow 1 (fragments_then values (closes_sequence ∷ w.1)) = stays_opened 0 a_fragment_list tag vr Undefined w.0 (fragments_then values (closes_sequence ∷ w.1)) w.2 (stays_same 0 atoms _ w.3 k) in
      let more : StaysShallow 0 w.1 = stays_on 1 closes_sequence w.1 (stays_fragments 1 values (closes_sequence ∷ w.1) inner) in
      ap says
      (ap (fold patient_next (at 0 NotYet h)) w.3
      ∙ head_told h tag vr Undefined w.0 a_fragment_list NotYet (fragments_then values (closes_sequence ∷ w.1)) w.2 (is_not_yet tag a_fragment_list e)
      ∙ fragments_pass NotYet held tt 1 values (closes_sequence ∷ w.1) (omega arith))
      ∙ go held w.1 w.4 more
      ∙ sym (ap (λ (c : Bool). if c then trees_unnamed rest behind else true) e)
  list_told tag vr values rest go false e h atoms w k =
      let held : Held = nothing_held Keep tag vr w.0 in
      let inner : StaysShallow 1 (fragments_then values (closes_sequence ∷ w.1)) = stays_opened 0 a_fragment_list tag vr Undefined w.0 (fragments_then values (closes_sequence ∷ w.1)) w.2 (stays_same 0 atoms _ w.3 k) in
      let more : StaysShallow 0 w.1 = stays_on 1 closes_sequence w.1 (stays_fragments 1 values (closes_sequence ∷ w.1) inner) in
      ap says
      (ap (fold patient_next (at 0 NotYet h)) w.3
      ∙ head_told h tag vr Undefined w.0 a_fragment_list Nobody (fragments_then values (closes_sequence ∷ w.1)) w.2 (names_none tag a_fragment_list e (and_false (same_tag tag PATIENT_ID)))
      ∙ fragments_pass Nobody held tt 1 values (closes_sequence ∷ w.1) (omega arith))
      ∙ stays_told Nobody held tt refl rest w.1 w.4 more
      ∙ sym (ap (λ (c : Bool). if c then trees_unnamed rest behind else true) e)

  trees_told : (x : Trees) (h : Held) (atoms : List Atom) → ShowTrees x atoms after → StaysShallow 0 atoms → says (fold patient_next (at 0 NotYet h) atoms) ≡ trees_unnamed x behind
  unfolding ShowTrees
  trees_told no_tree h atoms w k = ap (λ (xs : List Atom). says (fold patient_next (at 0 NotYet h) xs)) w ∙ open_told o b h after shows few may
  trees_told (leaf tag vr v rest) h atoms w k = leaf_told tag vr v rest (λ g xs u l. trees_told rest g xs u l) (below tag PATIENT_ID) (same_tag tag PATIENT_ID) refl refl h atoms w k
  trees_told (sequence tag vr declared items rest) h atoms w k = sequence_told tag vr declared items rest (λ g xs u l. trees_told rest g xs u l) (below tag PATIENT_ID) refl h atoms w k
  trees_told (fragments tag vr values rest) h atoms w k = list_told tag vr values rest (λ g xs u l. trees_told rest g xs u l) (below tag PATIENT_ID) refl h atoms w k

-- ---- the law

pub nobody_steps : (f : Front) (atoms : List Atom) → StaysShallow 0 atoms → Shows f atoms → state_unnamed (fold patient_next patient_begun atoms) (is_closed f) ≡ names_nobody f
unfolding Shows names_nobody
nobody_steps (front whole o reached closed) atoms h (others, shown, more, may, re) =
    trees_told o closed others more (stays_trees 0 whole atoms others shown h) may whole (nothing_held Keep PATIENT_ID LO Little) atoms shown h
