-- The first reading of a file: by how many days its dates are moved, which a key makes of the patient whom it names.
use Rattle.std.specs.Prelude.{◌≡◌, ◌⊎◌, ℕ, ℤ, ◌+◌, ◌==◌, List, [], ◌∷◌, ◌++◌, length, drop, Bool, true, false, Option, None, Some, fold}
use Rattle.std.specs.Prelude.{if◌then◌else◌}
use Rattle.dcm_base.specs.declared.dictionary.Dictionary.TheVariants.{Standard}
use Rattle.dcm_base.specs.declared.fault.Fault.{Fault}
use Rattle.dcm_base.specs.declared.fault.Fault.TheVariants.{NoPatientId}
use Rattle.dcm_base.specs.declared.fault.Stop.{Stop as FaultAt}
use Rattle.dcm_base.specs.declared.syntax.Coding.{Coding}
use Rattle.dcm_base.specs.declared.syntax.Syntax.{Syntax}
use Rattle.dcm_base.specs.File.MetaReads as meta
use Rattle.dcm_base.specs.File.MetaReads.{Meta, MetaReads}
use Rattle.dcm_base.specs.Reading.Bars.{no_bar, patient_bar}
use Rattle.dcm_base.specs.Reading.Reads.{Reads}
use Rattle.dcm_base.specs.Reading.Stop.{Stop, complete, refused, is_undecided}
use Rattle.dcm_base.specs.Steps.Atoms.{front_atoms}
use Rattle.dcm_base.specs.Tree.Front.{Front}
use Rattle.dcm_deid.specs.declared.patient.Naming.{Naming}
use Rattle.dcm_deid.specs.declared.patient.Naming.TheVariants.{NotYet, Opened, Ended, Nobody}
use Rattle.dcm_deid.specs.DeidentifySink.{next}
use Rattle.dcm_deid.specs.Patient.{PatientState, bars_none, patient_begun, patient_held, patient_next, up_to_bar, up_to_begun}
use Rattle.dcm_stream.specs.Driven.{driven}
use Rattle.dcm_stream.specs.Reading.{finish}
use Rattle.dcm_uid.specs.Pseudonym as pseudonym
use Rattle.dcm_cli.specs.declared.first.FirstEnd.{FirstEnd}
use Rattle.dcm_cli.specs.declared.first.FirstEnd.TheVariants.{Days, Refused, Unread}
use Rattle.dcm_cli.specs.Answer.{HeadIs, set_at}
use Rattle.dcm_cli.specs.InputCalls.{Reader, How, to_end, with_failure, Allows, ReadsInput}

-- ---- how it ends

-- no patient is named who could be told apart, where PatientID stands or would stand
abbrev pub nobody : (at : ℕ) → FirstEnd
nobody at = Refused (record { fault = NoPatientId; at = at })

-- the days of a patient; there is none where the value is padding alone, or too long
abbrev pub patient_end : (key patient : List ℕ) → (at : ℕ) → FirstEnd
patient_end key [] at = nobody at
patient_end key (b ∷ bs) at = Days (pseudonym.days key (b ∷ bs))

-- the reading ends before the value does
abbrev pub cut_end : Option FaultAt → (at : ℕ) → FirstEnd
cut_end None at = nobody at
cut_end (Some stop) at = Refused stop

-- by how far the naming has come
abbrev pub naming_end : (key : List ℕ) → Naming → (patient : List ℕ) → (whole : Option FaultAt) → (at : ℕ) → FirstEnd
naming_end key Ended patient whole at = patient_end key patient at
naming_end key Nobody patient whole at = nobody at
naming_end key Opened patient whole at = cut_end whole at
naming_end key NotYet patient whole at = cut_end whole at

abbrev pub is_at_patient : Fault → Bool
is_at_patient NoPatientId = true
is_at_patient _ = false

-- a fault before PatientID, or PatientID, or an element that belongs after it
abbrev pub fault_end : (key : List ℕ) → FaultAt → (whole : Option FaultAt) → PatientState → FirstEnd
fault_end key stop whole p = if is_at_patient stop.fault
    then naming_end key p.naming (patient_held p.held) whole stop.at else Refused stop

-- by why the reading stops that goes up to PatientID and no further, by why that of the whole data set does, and by whom
-- that names; the input has so many bytes
abbrev pub first_end : (key : List ℕ) → (up_to whole : Option FaultAt) → PatientState → (size : ℕ) → FirstEnd
first_end key None whole p size = nobody size
first_end key (Some stop) whole p size = fault_end key stop whole p

-- by which fault a reading stops, if by one
abbrev pub fault_at : Stop → Option FaultAt
fault_at complete = None
fault_at (refused fault offset) = Some (record { fault = fault; at = offset })

-- whom a data set names, as far as it was read
abbrev pub patient_of : Syntax → Front → PatientState
patient_of s set = fold patient_next patient_begun (front_atoms s set)

-- both readings of a data set
pub record SetReads (s : Syntax) (start : ℕ) (bytes : List ℕ) (before set : Front) (up_to stop : Stop) : Type 0 where
  pub up_to_patient : Reads patient_bar s start bytes before up_to
  pub whole : Reads no_bar s start bytes set stop

-- of a file: its head is at fault; or its data set follows
pub data FirstReads (key bytes : List ℕ) (end : FirstEnd) : Type 0 where
  no_set : (fault : Fault) (offset : ℕ) → MetaReads bytes (meta.refused fault offset)
      → end ≡ Refused (record { fault = fault; at = offset }) → FirstReads key bytes end
  of_set : (m : Meta) (group : List ℕ) (coding : Coding) (before set : Front) (up_to stop : Stop)
      → HeadIs Standard bytes m group coding
      → SetReads coding.syntax (set_at group) (drop (set_at group) bytes) before set up_to stop
      → end ≡ first_end key (fault_at up_to) (fault_at stop) (patient_of coding.syntax set) (length bytes) → FirstReads key bytes end

-- ---- what decides it

abbrev pub is_open : Naming → Bool
is_open Opened = true
is_open NotYet = true
is_open _ = false

-- the head of PatientID was read, and its value may still go on
pub record GoesOn (up_to stop : Stop) (p : PatientState) : Type 0 where
  pub stopped : FaultAt
  pub stopped_is : fault_at up_to ≡ Some stopped
  pub at_patient : is_at_patient stopped.fault ≡ true
  pub open_naming : is_open p.naming ≡ true
  pub undecided : is_undecided (Some stop) ≡ true

-- more bytes after these can still change how the first reading ends
pub data IsUndecided (bytes : List ℕ) : Type 0 where
  in_meta : (a : meta.MetaAnswer) → MetaReads bytes a → meta.is_undecided (length bytes) a ≡ true
      → IsUndecided bytes
  in_set : (m : Meta) (group : List ℕ) (coding : Coding) (before set : Front) (up_to stop : Stop)
      → HeadIs Standard bytes m group coding
      → SetReads coding.syntax (set_at group) (drop (set_at group) bytes) before set up_to stop
      → (is_undecided (Some up_to) ≡ true) ⊎ GoesOn up_to stop (patient_of coding.syntax set) → IsUndecided bytes

-- each file that begins with these bytes, and may go on so, has this end; or reading failed after them, where more bytes
-- could still change it
abbrev pub Comes : (key given : List ℕ) → How → FirstEnd → Type 0
Comes key given how (Days days) = (rest : List ℕ) → Allows how rest → FirstReads key (given ++ rest) (Days days)
Comes key given how (Refused stop) = (rest : List ℕ) → Allows how rest → FirstReads key (given ++ rest) (Refused stop)
Comes key given how (Unread count) = IsUndecided given × (count ≡ length given)

-- the reader failed in the calls exactly where that is how the reading ended
abbrev pub TellsEnd : (failed_before failed_after : Bool) → FirstEnd → Type 0
TellsEnd failed_before failed_after (Days days) = failed_after ≡ failed_before
TellsEnd failed_before failed_after (Refused stop) = failed_after ≡ failed_before
TellsEnd failed_before failed_after (Unread count) = failed_after ≡ true

-- a file was read by such calls, each of them only where more bytes could still change how the first reading ends
pub record ReadsFirst {R : Type 0} (r : Reader R) (before after : R) (key : List ℕ) (end : FirstEnd) : Type 0 where
  pub given : List ℕ
  pub how : How
  pub reads : ReadsInput r IsUndecided before given how after
  pub comes : Comes key given how end
  pub failed : TellsEnd (r.has_failed before) (r.has_failed after) end
