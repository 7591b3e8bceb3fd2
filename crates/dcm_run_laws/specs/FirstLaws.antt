-- By which days the dates of a file are moved where a key makes them.
use Rattle.std.specs.Prelude.{◌≡◌, ◌≢◌, ℕ, ℤ, negsuc, ◌≤ℤ◌, true, Bool, List, [], ◌++◌, drop, length, Some}
use Rattle.std.specs.Option.{option_map_or}
use Rattle.dcm_base.specs.declared.dictionary.Dictionary.TheVariants.{Standard}
use Rattle.dcm_base.specs.declared.fault.Stop.{Stop as FaultAt}
use Rattle.dcm_base.specs.declared.syntax.Coding.{Coding}
use Rattle.dcm_base.specs.File.MetaReads.{Meta}
use Rattle.dcm_base.specs.Reading.Bars.{PATIENT_ID, identity_bar, no_bar, patient_bar}
use Rattle.dcm_base.specs.Reading.Reads.{Reads}
use Rattle.dcm_base.specs.Reading.Stop.{Stop, complete, refused}
use Rattle.dcm_base.specs.Tree.Front.{Front}
use Rattle.dcm_base.specs.Tree.Tree.{Trees}
use Rattle.dcm_deid.specs.declared.fate.Depth.TheVariants.{Outermost}
use Rattle.dcm_deid.specs.declared.fate.Options.{Options}
use Rattle.dcm_deid.specs.declared.patient.Naming.TheVariants.{Ended}
use Rattle.dcm_deid.specs.Alike.{Alike}
use Rattle.dcm_deid.specs.Patient.{patient_held}
use Rattle.dcm_deid.specs.Saying.{whole_of}
use Rattle.dcm_deid.specs.Uids.{unpadded}
use Rattle.dcm_uid.specs.Pseudonym.{days, patient_of as named_by}
use Rattle.dcm_words.specs.Words.{with_days}
use Rattle.dcm_cli.specs.declared.first.FirstEnd.{FirstEnd}
use Rattle.dcm_cli.specs.declared.first.FirstEnd.TheVariants.{Days}
use Rattle.dcm_cli.specs.Answer.{Answer, HeadIs, set_at}
use Rattle.dcm_cli.specs.First.{FirstReads, IsUndecided, SetReads, fault_at, is_at_patient, patient_end, patient_of}
use Rattle.dcm_run_laws.specs.Flows.{IsDeidentified, meta_left}

-- a file names this patient: its reading up to PatientID stops at a whole value of that, at the outermost level
pub record NamesPatient (bytes named : List ℕ) : Type 0 where
  pub m : Meta
  pub group : List ℕ
  pub coding : Coding
  pub before : Front
  pub set : Front
  pub up_to : Stop
  pub stop : Stop
  pub head : HeadIs Standard bytes m group coding
  pub reads : SetReads coding.syntax (set_at group) (drop (set_at group) bytes) before set up_to stop
  pub stopped : FaultAt
  pub stopped_is : fault_at up_to ≡ Some stopped
  pub at_patient : is_at_patient stopped.fault ≡ true
  pub whole : (patient_of coding.syntax set).naming ≡ Ended
  pub named_is : patient_held (patient_of coding.syntax set).held ≡ named

-- a file has one end of its first reading, and some
abbrev pub FirstEndsOnce : Type 0
FirstEndsOnce = (key bytes : List ℕ) (a b : FirstEnd) → FirstReads key bytes a → FirstReads key bytes b → a ≡ b

abbrev pub FirstEnds : Type 0
FirstEnds = (key bytes : List ℕ) → (end : FirstEnd) × FirstReads key bytes end

-- the days of a file are those of the patient whom it names
abbrev pub DaysAreOfPatient : Type 0
DaysAreOfPatient =
    (key bytes : List ℕ) (d : ℤ) → FirstReads key bytes (Days d)
    → (named : List ℕ) × NamesPatient bytes named × (named ≢ []) × (d ≡ days key named)

-- and a file that names one has them
abbrev pub PatientHasDays : Type 0
PatientHasDays =
    (key bytes named : List ℕ) → NamesPatient bytes named → named ≢ [] → FirstReads key bytes (Days (days key named))

-- the patient whom the first PatientID among the elements of a data set names; nobody where there is none, or its value
-- is padding alone or too long
abbrev pub patient_in : Trees → List ℕ
patient_in set = option_map_or named_by (unpadded PATIENT_ID set) []

-- A file names this patient in the outermost data set of what is read of it, be it to its end or to a fault: the first
-- PatientID among the whole elements is a value, and this is whom it names.
pub record NamesInSet (bytes named : List ℕ) : Type 0 where
  pub m : Meta
  pub group : List ℕ
  pub coding : Coding
  pub set : Front
  pub stop : Stop
  pub head : HeadIs Standard bytes m group coding
  pub reads : Reads no_bar coding.syntax (set_at group) (drop (set_at group) bytes) set stop
  pub named_is : patient_in (whole_of set) ≡ named

-- so it is with the patient whom the days of a file are of
abbrev pub DaysAreOfOutermost : Type 0
DaysAreOfOutermost =
    (key bytes : List ℕ) (d : ℤ) → FirstReads key bytes (Days d)
    → (named : List ℕ) × NamesInSet bytes named × (named ≢ []) × (d ≡ days key named)

-- where a reading stops, or the end of the input
abbrev pub place_of : Stop → (size : ℕ) → ℕ
place_of complete size = size
place_of (refused fault offset) size = offset

-- where more bytes cannot change how the first reading of these ends, that of all files that begin with them ends so
abbrev pub FirstReadingStays : Type 0
FirstReadingStays =
    (key bytes rest : List ℕ) (end : FirstEnd) → (IsUndecided bytes → ⊥) → FirstReads key bytes end
    → FirstReads key (bytes ++ rest) end

-- of a file that is read without fault the first reading ends in the days of the patient whom its outermost PatientID
-- names, and without such a one in R17, where the reading stops that goes up to PatientID
abbrev pub FirstReadingDecides : Type 0
FirstReadingDecides =
    (key bytes : List ℕ) (m : Meta) (group : List ℕ) (coding : Coding) (f before : Front) (up_to : Stop)
    (end : FirstEnd) → HeadIs Standard bytes m group coding
    → Reads identity_bar coding.syntax (set_at group) (drop (set_at group) bytes) f complete
    → Reads patient_bar coding.syntax (set_at group) (drop (set_at group) bytes) before up_to
    → FirstReads key bytes end → end ≡ patient_end key (patient_in (whole_of f)) (place_of up_to (length bytes))

-- so two files of one patient are moved by the same days, under one key
abbrev pub OnePatientOneMove : Type 0
OnePatientOneMove =
    (key one other named : List ℕ) (d e : ℤ) → NamesPatient one named → NamesPatient other named
    → FirstReads key one (Days d) → FirstReads key other (Days e) → d ≡ e

-- into the past, and no further than ten years
abbrev pub MovesBack : Type 0
MovesBack = (key bytes : List ℕ) (d : ℤ) → FirstReads key bytes (Days d) → (d ≤ℤ negsuc 0) × (negsuc 3651 ≤ℤ d)

-- where each of two files has the days that the key makes of its own patient, nothing of what is taken flows
abbrev pub NothingFlowsByKey : Type 0
NothingFlowsByKey =
    (options : Options) (reports : Bool) (key first second : List ℕ) (d e : ℤ) (a b : Answer) (m n : Meta)
    (f g : Front) → FirstReads key first (Days d) → FirstReads key second (Days e)
    → IsDeidentified (with_days options d) reports key first a m f
    → IsDeidentified (with_days options e) reports key second b n g
    → meta_left options m ≡ meta_left options n
    → Alike (with_days options d) Outermost d e (whole_of f) (whole_of g) → a ≡ b
