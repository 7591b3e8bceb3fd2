-- A sink that passes all on to another one and notes whom PatientID names, where that is asked.
use Rattle.std.specs.Prelude.{ℕ, List, Bool, true, false, Option, None, Some, option_map}
use Rattle.dcm_base.specs.Steps.Atoms.{Atom}
use Rattle.dcm_head.specs.declared.head.Head.{Head}
use Rattle.dcm_stream.specs.declared.token.Bar.{Bar}
use Rattle.dcm_deid.specs.declared.patient.Naming.{Naming}
use Rattle.dcm_deid.specs.declared.patient.Naming.TheVariants.{NotYet, Opened, Ended, Nobody}
use Rattle.dcm_deid.specs.Patient.{PatientState, patient_begun, patient_held, patient_next}
use Rattle.dcm_deid.specs.Unnamed.{is_nobody}

-- before the first atom
abbrev pub noting : (asked : Bool) → Option PatientState
noting true = Some patient_begun
noting false = None

abbrev pub noted : Option PatientState → Atom → Option PatientState
noted p a = option_map (λ q. patient_next q a) p

abbrev pub noting_step : {S : Type 0} → (S → Atom → S) → Option PatientState × S → Atom → Option PatientState × S
noting_step step s a = (noted s.0 a, step s.1 a)

-- what the other one writes and bars
abbrev pub noting_writes : {S : Type 0} → (S → Atom → List ℕ) → Option PatientState × S → Atom → List ℕ
noting_writes writes s a = writes s.1 a

abbrev pub noting_bar : {S : Type 0} → (S → Head → Option Bar) → Option PatientState × S → Head → Option Bar
noting_bar bar s head = bar s.1 head

-- it names nobody: its value is whole, or it has none, or the data set has ended without it
abbrev pub naming_unnamed : Naming → (patient : List ℕ) → (closed : Bool) → Bool
naming_unnamed NotYet patient closed = closed
naming_unnamed Opened patient closed = false
naming_unnamed Ended patient closed = is_nobody patient
naming_unnamed Nobody patient closed = true

abbrev pub state_unnamed : PatientState → (closed : Bool) → Bool
state_unnamed p closed = naming_unnamed p.naming (patient_held p.held) closed

-- where that is asked
abbrev pub is_unnamed : Option PatientState → (closed : Bool) → Bool
is_unnamed None closed = false
is_unnamed (Some p) closed = state_unnamed p closed
