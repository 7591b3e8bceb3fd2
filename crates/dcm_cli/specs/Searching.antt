-- The search of a data set for its patient, by two machines.
use Rattle.std.specs.Prelude.{◌≡◌, ◌⊎◌, ℕ, ◌+◌, List, [], ◌++◌, length, Bool, true, false, Option, None, Some, fold, if◌then◌else◌, Result, Ok, Err}
use Rattle.dcm_base.specs.declared.fault.Stop.{Stop as FaultAt}
use Rattle.dcm_base.specs.declared.dictionary.Dictionary.TheVariants.{Standard}
use Rattle.dcm_base.specs.declared.syntax.Coding.{Coding}
use Rattle.dcm_base.specs.declared.syntax.Syntax.{Syntax}
use Rattle.dcm_base.specs.Tables.Syntax.{coding_by}
use Rattle.dcm_head.specs.MetaReading as meta
use Rattle.dcm_head.specs.declared.meta_read.MetaEnd.TheVariants as meta_ends
use Rattle.dcm_base.specs.Reading.Stop.{Stop}
use Rattle.dcm_base.specs.declared.stopped.Stopped.TheVariants as halts
use Rattle.dcm_deid.specs.declared.patient.Naming.{Naming}
use Rattle.dcm_deid.specs.declared.patient.Naming.TheVariants.{NotYet, Opened, Ended, Nobody}
use Rattle.dcm_deid.specs.DeidentifySink.{State, next}
use Rattle.dcm_deid.specs.Deidentifying.{state}
use Rattle.dcm_deid.specs.Patient.{PatientState, bars_none, no_options, patient_begun, patient_held, patient_next, up_to_bar, up_to_begun}
use Rattle.dcm_stream.specs.declared.sink.Sink.{Ghosts}
use Rattle.dcm_stream.specs.Driven.{driven}
use Rattle.dcm_stream.specs.Halts.{Halt}
use Rattle.dcm_stream.specs.Machine.{Progress, steps}
use Rattle.dcm_stream.specs.Reading.{Reading, end_shows, finish}
use Rattle.dcm_cli.specs.declared.first.FirstEnd.{FirstEnd}
use Rattle.dcm_cli.specs.declared.first.Search.{Search}
use Rattle.dcm_cli.specs.declared.first.FirstEnd.TheVariants.{Days, Refused, Unread}
use Rattle.dcm_cli.specs.First.{fault_at, first_end, is_at_patient, nobody, patient_end}
use Rattle.dcm_cli.specs.declared.ending.HeadEnding.{HeadEnding}
use Rattle.dcm_cli.specs.declared.ending.HeadEnding.TheVariants as heads
use Rattle.dcm_cli.specs.declared.head.Beginning.{Beginning}
use Rattle.dcm_cli.specs.Pass.{HeadReads, set_bytes}
use Rattle.dcm_cli.specs.InputCalls.{Reader, How, in_part, to_end, with_failure, ReadsInput}

-- ---- one machine

-- why it goes no further
abbrev pub told : Option Stop → Option FaultAt
told None = None
told (Some stop) = fault_at stop

-- as a call answers it
abbrev pub refusal : Result (Unit {0}) Halt → Option FaultAt
refusal (Ok x) = None
refusal (Err (halts.Refused stop)) = Some stop
refusal (Err halts.Output) = None

-- a machine and its sink read these bytes, and why it goes no further, unless the sink has failed
pub record Goes {S : Type 0} (sink : Ghosts S) (old new : S) (before after : Progress) (bytes : List ℕ)
    (result : Option FaultAt) : Type 0 where
  pub failed : after.failed ≡ true → sink.has_failed new ≡ true
  pub goes : after.failed ≡ false
      → (after.reading, sink.state new) ≡ fold (steps sink.bar sink.step) (before.reading, sink.state old) bytes
  pub told_is : after.failed ≡ false → result ≡ told after.reading.halt

-- the same where the input ends
pub record Ends {S : Type 0} (sink : Ghosts S) (old new : S) (before after : Progress) (result : Option FaultAt) : Type 0
  where
    pub failed : after.failed ≡ true → sink.has_failed new ≡ true
    pub state : after.failed ≡ false
        → sink.state new ≡ fold sink.step (sink.state old) (end_shows (finish before.reading))
    pub told_is : after.failed ≡ false → result ≡ fault_at (finish before.reading)

-- ---- both

-- where both stand after these bytes of a data set
abbrev pub up_to_at : Syntax → (start : ℕ) → List ℕ → Reading × State
up_to_at s start bytes = driven up_to_bar next up_to_begun s start bytes

abbrev pub patient_at : Syntax → (start : ℕ) → List ℕ → Reading × PatientState
patient_at s start bytes = driven bars_none patient_next patient_begun s start bytes

-- how the search ends by what was read so far, if that decides it
abbrev pub cut_so_far : Option FaultAt → Option FirstEnd
cut_so_far None = None
cut_so_far (Some stop) = Some (Refused stop)

abbrev pub naming_so_far : (key : List ℕ) → Naming → (patient : List ℕ) → (whole : Option FaultAt) → (at : ℕ)
    → Option FirstEnd
naming_so_far key Ended patient whole at = Some (patient_end key patient at)
naming_so_far key Nobody patient whole at = Some (nobody at)
naming_so_far key Opened patient whole at = cut_so_far whole
naming_so_far key NotYet patient whole at = cut_so_far whole

abbrev pub fault_so_far : (key : List ℕ) → FaultAt → (whole : Option FaultAt) → PatientState → Option FirstEnd
fault_so_far key stop whole p = if is_at_patient stop.fault
    then naming_so_far key p.naming (patient_held p.held) whole stop.at else Some (Refused stop)

abbrev pub so_far : (key : List ℕ) → (up_to whole : Option FaultAt) → PatientState → Option FirstEnd
so_far key None whole p = None
so_far key (Some stop) whole p = fault_so_far key stop whole p

abbrev pub decided : (key : List ℕ) → Syntax → (start : ℕ) → List ℕ → Option FirstEnd
decided key s start bytes =
    so_far key (told (up_to_at s start bytes).0.halt) (told (patient_at s start bytes).0.halt) (patient_at s start bytes).1

-- and where the input ends with these bytes
abbrev pub ended : (key : List ℕ) → Syntax → (start : ℕ) → List ℕ → FirstEnd
ended key s start bytes =
    first_end key (fault_at (finish (up_to_at s start bytes).0)) (fault_at (finish (patient_at s start bytes).0))
    (fold patient_next (patient_at s start bytes).1 (end_shows (finish (patient_at s start bytes).0)))
    (start + length bytes)

-- no sink has failed
pub record IsFine (search : Search) : Type 0 where
  pub place : search.place.failed ≡ false
  pub value : search.value.failed ≡ false

-- both machines with their sinks stand where these bytes lead
pub record Searched (s : Syntax) (start : ℕ) (bytes : List ℕ) (search : Search) : Type 0 where
  pub fine : IsFine search
  pub place : (search.place.reading, state no_options [] search.up_to.place) ≡ up_to_at s start bytes
  pub stop : search.stop ≡ told (up_to_at s start bytes).0.halt
  pub value : (search.value.reading, search.patient) ≡ patient_at s start bytes
  pub whole : search.whole ≡ told (patient_at s start bytes).0.halt

-- ---- a data set that is read

-- it goes on after these bytes
abbrev pub SearchGoesOn : (key : List ℕ) → Syntax → (start : ℕ) → (is_over : Bool) → (beginning : List ℕ) → List ℕ → Type 0
SearchGoesOn key s start is_over beginning bytes =
    (is_over ≡ false) × (decided key s start (beginning ++ bytes) ≡ None)

-- these bytes of it were read
pub data SearchEnds (key : List ℕ) (s : Syntax) (start : ℕ) (is_over : Bool) (bytes : List ℕ) (how : How)
    (end : FirstEnd) : Type 0 where
  by_bytes : how ≡ in_part → decided key s start bytes ≡ Some end → SearchEnds key s start is_over bytes how end
  at_end : ((is_over ≡ true) × (how ≡ in_part)) ⊎ (how ≡ to_end) → end ≡ ended key s start bytes
      → SearchEnds key s start is_over bytes how end
  not_read : how ≡ with_failure → decided key s start bytes ≡ None → end ≡ Unread (start + length bytes)
      → SearchEnds key s start is_over bytes how end

pub record Searches {R : Type 0} (r : Reader R) (before after : R) (key : List ℕ) (s : Syntax) (start : ℕ)
    (is_over : Bool) (beginning : List ℕ) (end : FirstEnd) : Type 0 where
  pub more : List ℕ
  pub how : How
  pub reads : ReadsInput r (SearchGoesOn key s start is_over beginning) before more how after
  pub ends : SearchEnds key s start is_over (beginning ++ more) how end
  pub over : is_over ≡ true → more ≡ []

-- ---- a file that is read

-- how the reading ends where no data set is reached
abbrev pub end_of_head : HeadEnding → FirstEnd
end_of_head (heads.Refused stop) = Refused stop
end_of_head (heads.Unread count) = Unread count

-- its head was read, and then its data set was searched
pub data FirstCalls {R : Type 0} (r : Reader R) (before after : R) (key : List ℕ) (end : FirstEnd) : Type 0 where
  no_head : (m : meta.Reading) (had held : List ℕ) (ending : HeadEnding)
      → HeadReads r before after m had held (Err ending) → end ≡ end_of_head ending
      → FirstCalls r before after key end
  set_searched : (m : meta.Reading) (had held : List ℕ) (b : Beginning) (mid : R) (named : Coding)
      → HeadReads r before mid m had held (Ok b) → m.end ≡ Some (meta_ends.Ended named)
      → Searches r mid after key (coding_by Standard named).syntax m.place b.is_over (set_bytes b held) end
      → FirstCalls r before after key end
