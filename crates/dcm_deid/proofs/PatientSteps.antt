-- The sink that looks for a patient bars what the definitions bar.
use Rattle.std.proofs.Common.{◌≡◌, ◌∙◌, ap, refl, ℕ, List, [], ◌∷◌, length, Option, Some, None, Bool, true, false, cond}
use Rattle.std.specs.Prelude.{fold, map, option_map}
use Rattle.dcm_lemmas.proofs.Numbers.{nothing_added}
use Rattle.dcm_base.specs.declared.tag.Tag.{Tag}
use Rattle.dcm_base.specs.declared.vr.Vr.{Vr}
use Rattle.dcm_base.specs.declared.length.Length.{Length}
use Rattle.dcm_base.specs.declared.fault.Fault.{Fault}
use Rattle.dcm_base.specs.declared.fault.Fault.TheVariants.{NotAscending, IdentityStays, NoPatientId}
use Rattle.dcm_base.specs.Reading.Bars.{holds_identity, innermost_reached, is_above, items_open, patient_bar, patient_fault, reaches_patient}
use Rattle.dcm_base.specs.Steps.Atoms.{Atom, Shows, value_byte}
use Rattle.dcm_base.specs.Tree.Front.{Front}
use Rattle.dcm_stream.specs.declared.token.Bar.{Bar as SinkBar}
use Rattle.dcm_stream.specs.declared.token.Bar.TheVariants.{Order, Identity, Patient}
use Rattle.dcm_stream.specs.Driven.{bars_by}
use Rattle.dcm_stream.specs.Judging.{fault_of}
use Rattle.dcm_sinks.specs.Laws.{StaysShallow}
use Rattle.dcm_deid.specs.declared.patient.Naming.{Naming}
use Rattle.dcm_deid.specs.declared.patient.Naming.TheVariants.{NotYet, Opened, Ended, Nobody}
use Rattle.dcm_deid.specs.DeidentifySink.{Held, held_with, next}
use Rattle.dcm_deid.specs.Patient.{held_where, patient_next, up_to_bar, up_to_begun}
use Rattle.dcm_deid.proofs.Bars.{last_front, outer_front}

by_tests : (a b c : Bool) → option_map fault_of (cond {A = Option SinkBar} a (cond {A = Option SinkBar} b (Some Identity) (cond {A = Option SinkBar} c (Some Patient) None)) (Some Order))
    ≡ cond {A = Option Fault} a (cond {A = Option Fault} b (Some IdentityStays) (cond {A = Option Fault} c (Some NoPatientId) None)) (Some NotAscending)
by_tests true true c = refl
by_tests true false true = refl
by_tests true false false = refl
by_tests false b c = refl

pub up_to_steps : (f : Front) (atoms : List Atom) (tag : Tag) (vr : Vr) (declared : Length) → StaysShallow 0 atoms → Shows f atoms → bars_by up_to_bar next up_to_begun atoms tag vr declared ≡ patient_bar f tag vr declared
up_to_steps f atoms tag vr declared h shown =
    let last : Option Tag = (fold next up_to_begun atoms).place.last in
    let outer : ℕ = length (fold next up_to_begun atoms).place.outer in
    by_tests (is_above tag last) (holds_identity tag) (reaches_patient outer tag)
    ∙ ap (λ (l : Option Tag). cond {A = Option Fault} (is_above tag l) (patient_fault outer tag) (Some NotAscending)) (last_front f 0 up_to_begun [] atoms shown h refl (record { is_last = refl; is_outer = refl }))
    ∙ ap (λ (n : ℕ). cond {A = Option Fault} (is_above tag (innermost_reached f)) (patient_fault n tag) (Some NotAscending)) (outer_front f 0 up_to_begun [] atoms shown h refl (record { is_last = refl; is_outer = refl }) ∙ nothing_added (items_open f))

-- ---- the value

pub bytes_held : (bytes : List ℕ) (d : ℕ) (n : Naming) (h : Held) → fold patient_next (record { depth = d; naming = n; held = h }) (map value_byte bytes) ≡ record { depth = d; naming = n; held = held_where n h bytes }
bytes_held [] d NotYet h = refl
bytes_held [] d Opened h = refl
bytes_held [] d Ended h = refl
bytes_held [] d Nobody h = refl
bytes_held (b ∷ bytes) d NotYet h = bytes_held bytes d NotYet h
bytes_held (b ∷ bytes) d Opened h = bytes_held bytes d Opened (held_with h b)
bytes_held (b ∷ bytes) d Ended h = bytes_held bytes d Ended h
bytes_held (b ∷ bytes) d Nobody h = bytes_held bytes d Nobody h
