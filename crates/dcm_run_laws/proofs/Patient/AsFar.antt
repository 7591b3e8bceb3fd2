-- Whom a data set names, as far as it was read.
use Rattle.std.proofs.Common.{◌≡◌, ◌≢◌, ◌∙◌, ap, sym, refl, subst, ℕ, List, ◌∷◌, ◌++◌, length, Bool, true, false, arith, Some, if◌then◌else◌}
use Rattle.std.specs.Prelude.{fold, map, ◌&&◌}
use Rattle.std.proofs.lemmas.List.Sums.{fold-append}
use Rattle.dcm_lemmas.proofs.Truth.{and_false}
use Rattle.dcm_base.specs.declared.form.Form.TheVariants.{Value as a_value, Sequence as a_sequence, FragmentList as a_fragment_list}
use Rattle.dcm_base.specs.declared.length.Length.{Length}
use Rattle.dcm_base.specs.declared.length.Length.TheVariants.{Known, Undefined}
use Rattle.dcm_base.specs.declared.syntax.Syntax.{Syntax}
use Rattle.dcm_base.specs.declared.tag.Tag.{Tag}
use Rattle.dcm_base.specs.declared.vr.Vr.{Vr}
use Rattle.dcm_base.specs.declared.vr.Vr.TheVariants.{LO}
use Rattle.dcm_base.specs.Bytes.Spelling.{SpellsFront, after_trees}
use Rattle.dcm_base.specs.Reading.Bars.{PATIENT_ID}
use Rattle.dcm_base.specs.Steps.Atoms.{Atom, value_byte, closes_leaf, closes_sequence, end_atoms, fragments_then, front_atoms, open_atoms, open_fragment_atoms, ShowTrees, Shows, ShowsOpen}
use Rattle.dcm_base.specs.Tables.Syntax.{Little}
use Rattle.dcm_base.specs.Tables.Tag.{below, same_tag}
use Rattle.dcm_base.specs.Tables.Transfer.{without_pads}
use Rattle.dcm_base.specs.Tree.Front.{Front, front, OpenTree, nothing_open, open_leaf, open_sequence, open_fragments}
use Rattle.dcm_base.specs.Tree.Tree.{Trees, no_tree, leaf, sequence, fragments, Items}
use Rattle.dcm_base.specs.Tree.Value.{order}
use Rattle.dcm_base.proofs.DataSets.Shown.{open_shown, trees_shown}
use Rattle.dcm_base.proofs.Dictionaries.TagOrder.{below_other_way}
use Rattle.dcm_sinks.specs.Laws.{StaysShallow}
use Rattle.dcm_sinks.proofs.Dumps.OpenLists.{stays_fragments, stays_items, stays_on, stays_opened, stays_same, stays_trees}
use Rattle.dcm_sinks.proofs.ReadBack.IsRead.{IsRead}
use Rattle.dcm_deid.specs.declared.fate.Fate.TheVariants.{Keep}
use Rattle.dcm_deid.specs.declared.patient.Naming.{Naming}
use Rattle.dcm_deid.specs.declared.patient.Naming.TheVariants.{NotYet, Opened, Ended, Nobody}
use Rattle.dcm_deid.specs.DeidentifySink.{Held, held_with, nothing_held}
use Rattle.dcm_deid.specs.Patient.{PatientState, names_patient, naming_at, patient_held, patient_next}
use Rattle.dcm_deid.specs.Saying.{whole_of}
use Rattle.dcm_deid.specs.Uids.{unpadded}
use Rattle.dcm_deid.proofs.PatientSteps.{bytes_held}
use Rattle.dcm_cli.specs.First.{patient_of}
use Rattle.dcm_run_laws.specs.FirstLaws.{patient_in}
use Rattle.dcm_deid.proofs.PatientAtoms.{NotOpen, at, bytes_pass, fragments_pass, head_told, is_nobody, is_not_yet, is_opened, items_pass, named, same_with, trees_pass, value_names}
use Rattle.dcm_deid.proofs.PatientOpen.{Stays, end_stays, fragment_stays, item_stays, open_stays}

-- ---- what is open does not end the naming

not_ended_by : (a b : Bool) → (if a then NotYet else if b then Opened else Nobody) ≢ Ended
not_ended_by true b = λ e. cc
not_ended_by false true = λ e. cc
not_ended_by false false = λ e. cc

not_open_by : (a b : Bool) → NotOpen (if a then NotYet else if b && false then Opened else Nobody)
not_open_by true b = tt
not_open_by false true = tt
not_open_by false false = tt

unended : (m : Naming) (p : PatientState) → m ≢ Ended → p.naming ≡ m → p.naming ≢ Ended
unended m p other is = λ e. other (sym is ∙ e)

stays_unended : (m : Naming) (held : Held) (closed_one : NotOpen m) (p q : PatientState) → m ≢ Ended → p ≡ q → Stays m held closed_one q → p.naming ≢ Ended
stays_unended m held closed_one p q other e (k, is) = unended m p other (ap (λ (r : PatientState). r.naming) (e ∙ is))

open_unended : (o : OpenTree) (b : Bool) (h : Held) (atoms : List Atom) → ShowsOpen o (end_atoms b) atoms → StaysShallow 0 atoms → (fold patient_next (at 0 NotYet h) atoms).naming ≢ Ended
unfolding Shows
open_unended nothing_open b h atoms w k = unended NotYet (fold patient_next (at 0 NotYet h) atoms) (λ e. cc) (ap (λ (r : PatientState). r.naming) (ap (fold patient_next (at 0 NotYet h)) w ∙ end_stays b (at 0 NotYet h)))
open_unended (open_leaf tag vr size v) b h atoms w k =
    let u : List ℕ = order w.0 vr v in
    let held : Held = nothing_held Keep tag vr w.0 in
    let m : Naming = naming_at tag a_value in
    unended m (fold patient_next (at 0 NotYet h) atoms) (not_ended_by (below tag PATIENT_ID) (names_patient tag a_value))
    (ap (λ (r : PatientState). r.naming)
    (ap (fold patient_next (at 0 NotYet h)) w.3
    ∙ head_told h tag vr (Known size) w.0 a_value m (map value_byte u) w.1 refl
    ∙ bytes_held u 1 m held))
open_unended (open_sequence tag vr declared items last) b h atoms w k =
    let held : Held = nothing_held Keep tag vr w.0 in
    let m : Naming = naming_at tag a_sequence in
    let plain : NotOpen m = not_open_by (below tag PATIENT_ID) (same_tag tag PATIENT_ID) in
    let inner : StaysShallow 1 w.1 = stays_opened 0 a_sequence tag vr declared w.0 w.1 w.3 (stays_same 0 atoms _ w.4 k) in
    stays_unended m held plain _ _ (not_ended_by (below tag PATIENT_ID) (names_patient tag a_sequence))
    (ap (fold patient_next (at 0 NotYet h)) w.4
    ∙ head_told h tag vr declared w.0 a_sequence m w.1 w.3 refl
    ∙ items_pass m held plain items 0 0 w.1 w.2 w.5 inner (omega arith))
    (item_stays m held plain last 0 0 w.2 w.6 (stays_items 1 items w.1 w.2 w.5 inner) (omega arith))
open_unended (open_fragments tag vr values last) b h atoms w k =
    let held : Held = nothing_held Keep tag vr w.0 in
    let m : Naming = naming_at tag a_fragment_list in
    let plain : NotOpen m = not_open_by (below tag PATIENT_ID) (same_tag tag PATIENT_ID) in
    stays_unended m held plain _ _ (not_ended_by (below tag PATIENT_ID) (names_patient tag a_fragment_list))
    (ap (fold patient_next (at 0 NotYet h)) w.3
    ∙ head_told h tag vr Undefined w.0 a_fragment_list m (fragments_then values (open_fragment_atoms last)) w.1 refl
    ∙ fragments_pass m held plain 1 values (open_fragment_atoms last) (omega arith))
    (fragment_stays m held plain 1 last (omega arith))

-- ---- whole elements, and then what is open

module _ (o : OpenTree) (b : Bool) (after : List Atom) (shows : ShowsOpen o (end_atoms b) after) (few : StaysShallow 0 after) where
  -- where the naming has ended, this is whom it names
  abbrev Names : PatientState → List ℕ → Type 0
  Names p whom = p.naming ≡ Ended → whom ≡ patient_held p.held

  abbrev MoreNamed : Trees → Type 0
  MoreNamed rest = (h : Held) (atoms : List Atom) → ShowTrees rest atoms after → StaysShallow 0 atoms → Names (fold patient_next (at 0 NotYet h) atoms) (named (unpadded PATIENT_ID rest))

  -- nobody is named by what is above PatientID
  nobody_named : (x : Trees) (h : Held) (atoms : List Atom) (p : PatientState) (whom : List ℕ) → ShowTrees x atoms after → StaysShallow 0 atoms → p ≡ fold patient_next (at 0 Nobody h) atoms → Names p whom
  nobody_named x h atoms p whom w k is =
      λ e. absurd (stays_unended Nobody h tt p (fold patient_next (at 0 Nobody h) after) (λ no. cc) (is ∙ trees_pass Nobody h tt x 0 0 atoms after w k (omega arith) refl) (open_stays Nobody h tt o 0 0 b after shows few (omega arith) refl) e)

  named_then : (p q : PatientState) (whom : List ℕ) → p ≡ q → Names q whom → Names p whom
  named_then p q whom e f = subst (λ (r : PatientState). Names r whom) (sym e) f

  leaf_named : (tag : Tag) (vr : Vr) (v : List ℕ) (rest : Trees) → MoreNamed rest → (less same : Bool) → below tag PATIENT_ID ≡ less → same_tag tag PATIENT_ID ≡ same → (h : Held) (atoms : List Atom) → ShowTrees (leaf tag vr v rest) atoms after → StaysShallow 0 atoms
      → Names (fold patient_next (at 0 NotYet h) atoms) (named (if same_tag tag PATIENT_ID then Some (without_pads v) else unpadded PATIENT_ID rest))
  unfolding ShowTrees
  leaf_named tag vr v rest go true same e is h atoms w k =
      let u : List ℕ = order w.0 vr v in
      let held : Held = nothing_held Keep tag vr w.0 in
      let more : StaysShallow 0 w.1 = stays_trees 0 (leaf tag vr v no_tree) atoms w.1 (w.0, w.1, w.2, w.3, refl) k in
      named_then _ (fold patient_next (at 0 NotYet held) w.1) _
      (ap (fold patient_next (at 0 NotYet h)) w.3
      ∙ head_told h tag vr (Known (length v)) w.0 a_value NotYet (map value_byte u ++ closes_leaf ∷ w.1) w.2 (is_not_yet tag a_value e)
      ∙ bytes_pass NotYet held tt 1 u (closes_leaf ∷ w.1))
      (subst (λ (c : Bool). Names (fold patient_next (at 0 NotYet held) w.1) (named (if c then Some (without_pads v) else unpadded PATIENT_ID rest))) (sym (below_other_way tag PATIENT_ID e)) (go held w.1 w.4 more))
  leaf_named tag vr v rest go false true e is h atoms w k =
      let u : List ℕ = order w.0 vr v in
      let held : Held = nothing_held Keep tag vr w.0 in
      let all : Held = fold held_with held u in
      let more : StaysShallow 0 w.1 = stays_trees 0 (leaf tag vr v no_tree) atoms w.1 (w.0, w.1, w.2, w.3, refl) k in
      let last = open_stays Ended all tt o 0 0 b after shows few (omega arith) refl in
      let steps : fold patient_next (at 0 NotYet h) atoms ≡ at last.0 Ended all =
      ap (fold patient_next (at 0 NotYet h)) w.3
      ∙ head_told h tag vr (Known (length v)) w.0 a_value Opened (map value_byte u ++ closes_leaf ∷ w.1) w.2 (is_opened tag e is)
      ∙ fold-append patient_next (at 1 Opened held) (map value_byte u) (closes_leaf ∷ w.1)
      ∙ ap (λ (p : PatientState). fold patient_next p (closes_leaf ∷ w.1)) (bytes_held u 1 Opened held)
      ∙ trees_pass Ended all tt rest 0 0 w.1 after w.4 more (omega arith) refl
      ∙ last.1
      in
      named_then _ (at last.0 Ended all) _ steps
      (λ ended. ap (λ (c : Bool). named (if c then Some (without_pads v) else unpadded PATIENT_ID rest)) is ∙ sym (value_names tag vr w.0 v))
  leaf_named tag vr v rest go false false e is h atoms w k =
      let u : List ℕ = order w.0 vr v in
      let held : Held = nothing_held Keep tag vr w.0 in
      let more : StaysShallow 0 w.1 = stays_trees 0 (leaf tag vr v no_tree) atoms w.1 (w.0, w.1, w.2, w.3, refl) k in
      nobody_named rest held w.1 _ _ w.4 more
      (ap (fold patient_next (at 0 NotYet h)) w.3
      ∙ head_told h tag vr (Known (length v)) w.0 a_value Nobody (map value_byte u ++ closes_leaf ∷ w.1) w.2 (is_nobody tag a_value e (same_with (same_tag tag PATIENT_ID) is))
      ∙ bytes_pass Nobody held tt 1 u (closes_leaf ∷ w.1))

  sequence_named : (tag : Tag) (vr : Vr) (declared : Length) (items : Items) (rest : Trees) → MoreNamed rest → (less : Bool) → below tag PATIENT_ID ≡ less → (h : Held) (atoms : List Atom) → ShowTrees (sequence tag vr declared items rest) atoms after → StaysShallow 0 atoms
      → Names (fold patient_next (at 0 NotYet h) atoms) (named (unpadded PATIENT_ID rest))
  unfolding ShowTrees
  sequence_named tag vr declared items rest go true e h atoms w k =
      let held : Held = nothing_held Keep tag vr w.0 in
      let inner : StaysShallow 1 w.1 = stays_opened 0 a_sequence tag vr declared w.0 w.1 w.3 (stays_same 0 atoms _ w.4 k) in
      let more : StaysShallow 0 w.2 = stays_on 1 closes_sequence w.2 (stays_items 1 items w.1 (closes_sequence ∷ w.2) w.5 inner) in
      named_then _ (fold patient_next (at 0 NotYet held) w.2) _
      (ap (fold patient_next (at 0 NotYet h)) w.4
      ∙ head_told h tag vr declared w.0 a_sequence NotYet w.1 w.3 (is_not_yet tag a_sequence e)
      ∙ items_pass NotYet held tt items 0 0 w.1 (closes_sequence ∷ w.2) w.5 inner (omega arith))
      (go held w.2 w.6 more)
  sequence_named tag vr declared items rest go false e h atoms w k =
      let held : Held = nothing_held Keep tag vr w.0 in
      let inner : StaysShallow 1 w.1 = stays_opened 0 a_sequence tag vr declared w.0 w.1 w.3 (stays_same 0 atoms _ w.4 k) in
      let more : StaysShallow 0 w.2 = stays_on 1 closes_sequence w.2 (stays_items 1 items w.1 (closes_sequence ∷ w.2) w.5 inner) in
      nobody_named rest held w.2 _ _ w.6 more
      (ap (fold patient_next (at 0 NotYet h)) w.4
      ∙ head_told h tag vr declared w.0 a_sequence Nobody w.1 w.3 (is_nobody tag a_sequence e (and_false (same_tag tag PATIENT_ID)))
      ∙ items_pass Nobody held tt items 0 0 w.1 (closes_sequence ∷ w.2) w.5 inner (omega arith))

  list_named : (tag : Tag) (vr : Vr) (values : List (List ℕ)) (rest : Trees) → MoreNamed rest → (less : Bool) → below tag PATIENT_ID ≡ less → (h : Held) (atoms : List Atom) → ShowTrees (fragments tag vr values rest) atoms after → StaysShallow 0 atoms
      → Names (fold patient_next (at 0 NotYet h) atoms) (named (unpadded PATIENT_ID rest))
  unfolding ShowTrees
  list_named tag vr values rest go true e h atoms w k =
      let held : Held = nothing_held Keep tag vr w.0 in
      let inner : StaysShallow 1 (fragments_then values (closes_sequence ∷ w.1)) = stays_opened 0 a_fragment_list tag vr Undefined w.0 (fragments_then values (closes_sequence ∷ w.1)) w.2 (stays_same 0 atoms _ w.3 k) in
      let more : StaysShallow 0 w.1 = stays_on 1 closes_sequence w.1 (stays_fragments 1 values (closes_sequence ∷ w.1) inner) in
      named_then _ (fold patient_next (at 0 NotYet held) w.1) _
      (ap (fold patient_next (at 0 NotYet h)) w.3
      ∙ head_told h tag vr Undefined w.0 a_fragment_list NotYet (fragments_then values (closes_sequence ∷ w.1)) w.2 (is_not_yet tag a_fragment_list e)
      ∙ fragments_pass NotYet held tt 1 values (closes_sequence ∷ w.1) (omega arith))
      (go held w.1 w.4 more)
  list_named tag vr values rest go false e h atoms w k =
      let held : Held = nothing_held Keep tag vr w.0 in
      let inner : StaysShallow 1 (fragments_then values (closes_sequence ∷ w.1)) = stays_opened 0 a_fragment_list tag vr Undefined w.0 (fragments_then values (closes_sequence ∷ w.1)) w.2 (stays_same 0 atoms _ w.3 k) in
      let more : StaysShallow 0 w.1 = stays_on 1 closes_sequence w.1 (stays_fragments 1 values (closes_sequence ∷ w.1) inner) in
      nobody_named rest held w.1 _ _ w.4 more
      (ap (fold patient_next (at 0 NotYet h)) w.3
      ∙ head_told h tag vr Undefined w.0 a_fragment_list Nobody (fragments_then values (closes_sequence ∷ w.1)) w.2 (is_nobody tag a_fragment_list e (and_false (same_tag tag PATIENT_ID)))
      ∙ fragments_pass Nobody held tt 1 values (closes_sequence ∷ w.1) (omega arith))

  pub named_by_atoms : (x : Trees) (h : Held) (atoms : List Atom) → ShowTrees x atoms after → StaysShallow 0 atoms → Names (fold patient_next (at 0 NotYet h) atoms) (named (unpadded PATIENT_ID x))
  unfolding ShowTrees
  named_by_atoms no_tree h atoms w k = λ e. absurd (open_unended o b h after shows few (sym (ap (λ (xs : List Atom). (fold patient_next (at 0 NotYet h) xs).naming) w) ∙ e))
  named_by_atoms (leaf tag vr v rest) h atoms w k = leaf_named tag vr v rest (λ g xs u l. named_by_atoms rest g xs u l) (below tag PATIENT_ID) (same_tag tag PATIENT_ID) refl refl h atoms w k
  named_by_atoms (sequence tag vr declared items rest) h atoms w k = sequence_named tag vr declared items rest (λ g xs u l. named_by_atoms rest g xs u l) (below tag PATIENT_ID) refl h atoms w k
  named_by_atoms (fragments tag vr values rest) h atoms w k = list_named tag vr values rest (λ g xs u l. named_by_atoms rest g xs u l) (below tag PATIENT_ID) refl h atoms w k

-- ---- what is read of an input

pub named_in : (s : Syntax) (f : Front) → IsRead s f → (patient_of s f).naming ≡ Ended → patient_in (whole_of f) ≡ patient_held (patient_of s f).held
unfolding SpellsFront front_atoms
named_in s (front whole o reached closed) r ended =
    let others : List Atom = open_atoms (after_trees s whole) o (end_atoms closed) in
    let atoms : List Atom = front_atoms s (front whole o reached closed) in
    let w = r.spelled in
    let shown = trees_shown s whole r.bytes w.0 others w.1 in
    named_by_atoms o closed others (open_shown (after_trees s whole) o w.0 (end_atoms closed) w.2) (stays_trees 0 whole atoms others shown r.shallow)
    whole (nothing_held Keep PATIENT_ID LO Little) atoms shown r.shallow ended
