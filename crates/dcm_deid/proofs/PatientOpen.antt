-- What is open of a data set does not change whom it names.
use Rattle.std.proofs.Common.{◌≡◌, ◌∙◌, ap, refl, ℕ, suc, ◌*◌, ◌≤◌, List, [], Bool, true, false, arith, Option, Some, None}
use Rattle.std.specs.Prelude.{fold, map}
use Rattle.dcm_base.specs.declared.form.Form.TheVariants.{Sequence as a_sequence}
use Rattle.dcm_base.specs.declared.length.Length.TheVariants.{Known, Undefined}
use Rattle.dcm_base.specs.Steps.Atoms.{Atom, value_byte, opens_item, end_atoms, fragments_then, open_fragment_atoms, Shows, ShowsOpen, ShowsOpenItem}
use Rattle.dcm_base.specs.Tree.Front.{Front, front, OpenTree, nothing_open, open_leaf, open_sequence, open_fragments, OpenItem, no_open_item, open_item}
use Rattle.dcm_base.specs.Tree.Value.{order}
use Rattle.dcm_sinks.specs.Laws.{StaysShallow}
use Rattle.dcm_sinks.proofs.Dumps.OpenLists.{stays_items, stays_on, stays_opened, stays_same, stays_trees}
use Rattle.dcm_deid.specs.declared.patient.Naming.{Naming}
use Rattle.dcm_deid.specs.DeidentifySink.{Held}
use Rattle.dcm_deid.specs.Patient.{PatientState, looks_at, patient_next}
use Rattle.dcm_deid.proofs.PatientSteps.{bytes_held}
use Rattle.dcm_deid.proofs.PatientAtoms.{NotOpen, at, fragments_pass, into, items_pass, not_held, opened_is, trees_pass}

-- ---- what is open changes nothing

pub end_stays : (b : Bool) (p : PatientState) → fold patient_next p (end_atoms b) ≡ p
end_stays false p = refl
end_stays true p = refl

module _ (n : Naming) (h : Held) (closed_one : NotOpen n) where
  -- a state after some atoms, which differs from one before in how much is open alone
  abbrev pub Stays : PatientState → Type 0
  Stays p = (k : ℕ) × (p ≡ at k n h)

  then_stays : (p q : PatientState) → p ≡ q → Stays q → Stays p
  then_stays p q e (k, is) = (k, e ∙ is)

  pub value_stays : (d : ℕ) (v : List ℕ) → Stays (fold patient_next (at d n h) (map value_byte v))
  value_stays d v = (d, bytes_held v d n h ∙ ap (at d n) (not_held n h v closed_one))

  pub fragment_stays : (d : ℕ) (last : Option (ℕ × List ℕ)) → d ≤ 200 → Stays (fold patient_next (at d n h) (open_fragment_atoms last))
  fragment_stays d None few = (d, refl)
  fragment_stays d (Some f) few = then_stays _ _ (ap (λ (k : ℕ). fold patient_next (at k n h) (map value_byte f.1)) (opened_is d few)) (value_stays (suc d) f.1)

  mutual
    unfolding Shows

    pub front_stays : (f : Front) (lists d : ℕ) (atoms : List Atom) → Shows f atoms → StaysShallow lists atoms → d ≤ 2 * lists → looks_at d n ≡ false → Stays (fold patient_next (at d n h) atoms)
    front_stays (front whole o reached closed) lists d atoms w k le looks =
        then_stays _ _ (trees_pass n h closed_one whole lists d atoms w.0 w.1 k le looks)
        (open_stays o lists d closed w.0 w.2 (stays_trees lists whole atoms w.0 w.1 k) le looks)

    pub open_stays : (o : OpenTree) (lists d : ℕ) (b : Bool) (atoms : List Atom) → ShowsOpen o (end_atoms b) atoms → StaysShallow lists atoms → d ≤ 2 * lists → looks_at d n ≡ false → Stays (fold patient_next (at d n h) atoms)
    open_stays nothing_open lists d b atoms w k le looks = (d, ap (fold patient_next (at d n h)) w ∙ end_stays b (at d n h))
    open_stays (open_leaf tag vr size v) lists d b atoms w k le looks =
        let few : lists ≤ 64 = k [] atoms refl in
        let u : List ℕ = order w.0 vr v in
        then_stays _ _ (ap (fold patient_next (at d n h)) w.3 ∙ into n h closed_one d tag vr (Known size) w.0 (map value_byte u) (omega (arith, few, le)) looks) (value_stays (suc d) u)
    open_stays (open_sequence tag vr declared items last) lists d b atoms w k le looks =
        let few : lists ≤ 64 = k [] atoms refl in
        let inner : StaysShallow (suc lists) w.1 = stays_opened lists a_sequence tag vr declared w.0 w.1 w.3 (stays_same lists atoms _ w.4 k) in
        then_stays _ _
        (ap (fold patient_next (at d n h)) w.4
        ∙ into n h closed_one d tag vr declared w.0 w.1 (omega (arith, few, le)) looks
        ∙ items_pass n h closed_one items lists d w.1 w.2 w.5 inner le)
        (item_stays last lists d w.2 w.6 (stays_items (suc lists) items w.1 w.2 w.5 inner) le)
    open_stays (open_fragments tag vr values last) lists d b atoms w k le looks =
        let few : lists ≤ 64 = k [] atoms refl in
        then_stays _ _
        (ap (fold patient_next (at d n h)) w.3
        ∙ into n h closed_one d tag vr Undefined w.0 (fragments_then values (open_fragment_atoms last)) (omega (arith, few, le)) looks
        ∙ fragments_pass n h closed_one (suc d) values (open_fragment_atoms last) (omega (arith, few, le)))
        (fragment_stays (suc d) last (omega (arith, few, le)))

    pub item_stays : (last : OpenItem) (lists d : ℕ) (atoms : List Atom) → ShowsOpenItem last atoms → StaysShallow (suc lists) atoms → d ≤ 2 * lists → Stays (fold patient_next (at (suc d) n h) atoms)
    item_stays no_open_item lists d atoms w k le = (suc d, ap (fold patient_next (at (suc d) n h)) w)
    item_stays (open_item declared set) lists d atoms w k le =
        let few : suc lists ≤ 64 = k [] atoms refl in
        let inner : StaysShallow (suc lists) w.0 = stays_on (suc lists) (opens_item declared) w.0 (stays_same (suc lists) atoms _ w.1 k) in
        then_stays _ _
        (ap (fold patient_next (at (suc d) n h)) w.1 ∙ ap (λ (j : ℕ). fold patient_next (at j n h) w.0) (opened_is (suc d) (omega (arith, few, le))))
        (front_stays set (suc lists) (suc (suc d)) w.0 w.3 inner (omega (arith, le)) refl)
