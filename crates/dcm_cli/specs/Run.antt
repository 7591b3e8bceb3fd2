-- What a run leaves.
use Rattle.std.specs.Prelude.{◌≡◌, ◌⊎◌, ℕ, zero, suc, ◌+◌, ◌*◌, Bool, true, false, List, [], ◌∷◌, ◌++◌, length, drop, ◌<◌, Option}
use Rattle.std.specs.Prelude.{None, Some, if◌then◌else◌, ◌&&◌}
use Rattle.std.specs.Io.KnownBytes.{append_known}
use Rattle.dcm_base.specs.Lines.Build as build
use Rattle.dcm_base.specs.declared.fault.LineStop.{LineStop}
use Rattle.dcm_devices.specs.Device.{AppendsFront}
use Rattle.dcm_base.specs.Tree.Front.{Front}
use Rattle.dcm_base.specs.File.MetaReads as meta
use Rattle.dcm_base.specs.File.MetaReads.{Meta, MetaReads}
use Rattle.dcm_base.specs.Reading.Bars.{no_bar}
use Rattle.dcm_base.specs.Reading.Reads.{Reads}
use Rattle.dcm_base.specs.Reading.Stop.{Stop, complete, refused, is_undecided}
use Rattle.dcm_base.specs.declared.dictionary.Dictionary.{Dictionary}
use Rattle.dcm_base.specs.declared.syntax.Coding.{Coding}
use Rattle.dcm_base.specs.declared.syntax.Syntax.{Syntax}
use Rattle.dcm_base.specs.Tables.Syntax.{read_by}
use Rattle.dcm_edits.specs.Edit.{Edit, found}
use Rattle.dcm_edits.specs.Meaning.{AreMeant}
use Rattle.dcm_words.specs.declared.job.Texts.TheVariants.{Characters}
use Rattle.dcm_words.specs.Words.{Job, dump_decoded, dump_named, build as building, modify, deidentify}
use Rattle.dcm_cli.specs.declared.ending.Ended.{Ended}
use Rattle.dcm_cli.specs.declared.ending.Ending.{Ending}
use Rattle.dcm_cli.specs.declared.ending.Remarks.{Remarks}
use Rattle.dcm_cli.specs.declared.ending.Ending.TheVariants as endings
use Rattle.dcm_cli.specs.declared.ending.Ending.TheVariants.{Unread, Output}
use Rattle.dcm_cli.specs.declared.ending.Verdict.{Verdict}
use Rattle.dcm_cli.specs.declared.ending.Verdict.TheVariants.{Done, PixelsMayShow, Refused, RefusedLine}
use Rattle.dcm_cli.specs.Answer.{Answer, Source, unopened, file, alone, InputReads, output_of, edits_of, building_line}
use Rattle.dcm_cli.specs.Answer.{HeadIs, going_on, job_bar, job_dictionary, set_at, shows_identity}
use Rattle.dcm_cli.specs.Answer.{Answers, Sure}
use Rattle.dcm_cli.specs.InputCalls.{How, Allows}
use Rattle.dcm_cli.specs.Change.{Change}
use Rattle.dcm_cli.specs.ErrorLines.{Reports, fault_line, pixels_line, unread_line, output_line, mask_lines}
use Rattle.dcm_cli.specs.Remarks.{no_remarks, remark_lines, remarks_at, remarks_told}
use Rattle.dcm_cli.specs.Status.{DEVICE, DONE, FAULT, REMARK}

-- the edits of a job are those that some words mean
abbrev pub IsMeant : Job → Type 0
IsMeant (modify d edits) = AreMeant edits
IsMeant _ = Unit {0}

-- ---- the work on a job, before its output is flushed

-- how the reading of a data set ends
abbrev pub verdict_of_stop : Stop → Verdict
verdict_of_stop complete = Done 0
verdict_of_stop (refused fault offset) = Refused (record { fault = fault; at = offset })

-- which of the edits found no place in a data set: bit 0 is set for the first
unfoldable pub unplaced_mask : List Edit → Front → ℕ
unplaced_mask [] set = 0
unplaced_mask (e ∷ edits) set = (if found e set then 0 else 1) + 2 * unplaced_mask edits set

-- what the work comes to where all was done
abbrev pub done_verdict : Job → Front → Verdict
done_verdict (deidentify options reports key) set =
    if reports && shows_identity options key set then PixelsMayShow else Done 0
done_verdict job set = Done (unplaced_mask (edits_of job) set)

-- and else
abbrev pub verdict_at : Job → Front → Stop → Verdict
verdict_at job set complete = done_verdict job set
verdict_at job set (refused fault offset) = Refused (record { fault = fault; at = offset })

-- by how the input was read
abbrev pub verdict_of_source : Job → Source → Verdict
verdict_of_source job (unopened fault offset) = Refused (record { fault = fault; at = offset })
verdict_of_source job (file meta coding set stop) = verdict_at job set stop
verdict_of_source job (alone syntax set stop) = verdict_at job set stop

-- by the fault of the lines that were built, if there is one
abbrev pub verdict_of_line_stop : Option LineStop → Verdict
verdict_of_line_stop None = Done 0
verdict_of_line_stop (Some t) = RefusedLine t

-- the output of an input that was read, and what the work on it comes to
pub record ReadEnds (job : Job) (input out : List ℕ) (verdict : Verdict) : Type 0 where
  pub source : Source
  pub reads : InputReads job input source
  pub out_is : out ≡ output_of job source
  pub verdict_is : verdict ≡ verdict_of_source job source

-- and of lines that were built into a file
pub record BuildEnds (limit : ℕ) (input out : List ℕ) (verdict : Verdict) : Type 0 where
  pub out_is : out ≡ build.built_bytes (build.built limit input).built
  pub verdict_is : verdict ≡ verdict_of_line_stop (build.built limit input).told

-- where no device fails
abbrev pub Answered : Job → (input out : List ℕ) → Verdict → Type 0
Answered (building limit) input out verdict = BuildEnds limit input out verdict
Answered job input out verdict = ReadEnds job input out verdict

-- of an input that was to be read from here on; the output's writer holds these bytes before and after
pub data Worked (job : Job) (input : List ℕ) (left before after : Option (List ℕ)) (ending : Ending) : Type 0 where
  -- all of it was read, or as much as decides, and all of the output was written
  answered : (out : List ℕ) (verdict : Verdict) → Answered job input out verdict → ending ≡ endings.Worked verdict
      → after ≡ append_known before out → Worked job input left before after ending
  -- reading failed after p, and the rest was left
  could_not_read : (p rest out : List ℕ) → input ≡ p ++ rest → left ≡ Some rest → Sure job p out
      → ending ≡ Unread (length p) → after ≡ append_known before out → Worked job input left before after ending
  -- the output failed
  could_not_write : (out : List ℕ) (verdict : Verdict) → Answered job input out verdict → ending ≡ Output
      → AppendsFront before after out → Worked job input left before after ending

-- ---- what is remarked of an input

abbrev pub source_remarks : Job → Source → Remarks
source_remarks job (unopened fault offset) = no_remarks
source_remarks job (file meta coding set stop) = remarks_at job set
source_remarks job (alone syntax set stop) = remarks_at job set

-- of one that was read
pub record ReadRemarks (job : Job) (input : List ℕ) (remarks : Remarks) : Type 0 where
  pub source : Source
  pub reads : InputReads job input source
  pub remarks_are : remarks ≡ source_remarks job source

-- no other job remarks anything
abbrev pub Remarked : Job → (input : List ℕ) → Remarks → Type 0
Remarked (deidentify options reports key) input remarks = ReadRemarks (deidentify options reports key) input remarks
Remarked (dump_decoded d mode bare) input remarks = ReadRemarks (dump_decoded d mode bare) input remarks
Remarked (dump_named Characters d mode bare named) input remarks =
    ReadRemarks (dump_named Characters d mode bare named) input remarks
Remarked job input remarks = remarks ≡ no_remarks

-- of a beginning of a file: nothing until two bytes have ended its meta group
pub data FileRemarked (job : Job) (p : List ℕ) (remarks : Remarks) : Type 0 where
  before_its_set : (a : meta.MetaAnswer) → MetaReads p a → meta.is_undecided (length p) a ≡ true
      → remarks ≡ no_remarks → FileRemarked job p remarks
  within_its_set : (m : Meta) (group : List ℕ) (coding : Coding) (set : Front) (stop : Stop)
      → HeadIs (job_dictionary job) p m group coding → set_at group < length p
      → Reads (job_bar job coding) coding.syntax (set_at group) (drop (set_at group) p) set stop
      → is_undecided (Some stop) ≡ true → remarks ≡ remarks_at job (going_on set) → FileRemarked job p remarks

-- of a beginning of a data set alone
pub record AloneRemarked (job : Job) (syntax : Syntax) (p : List ℕ) (remarks : Remarks) : Type 0 where
  pub set : Front
  pub stop : Stop
  pub reads : Reads no_bar syntax 0 p set stop
  pub open_end : is_undecided (Some stop) ≡ true
  pub remarks_are : remarks ≡ remarks_at job (going_on set)

-- of a beginning of what is dumped
abbrev pub DumpRemarked : Job → Dictionary → (bare : Option Syntax) → (p : List ℕ) → Remarks → Type 0
DumpRemarked job d None p remarks = FileRemarked job p remarks
DumpRemarked job d (Some syntax) p remarks = AloneRemarked job (read_by d syntax) p remarks

abbrev pub SoFarRemarked : Job → (p : List ℕ) → Remarks → Type 0
SoFarRemarked (deidentify options reports key) p remarks = FileRemarked (deidentify options reports key) p remarks
SoFarRemarked (dump_decoded d mode bare) p remarks = DumpRemarked (dump_decoded d mode bare) d bare p remarks
SoFarRemarked (dump_named Characters d mode bare named) p remarks =
    DumpRemarked (dump_named Characters d mode bare named) d bare p remarks
SoFarRemarked job p remarks = remarks ≡ no_remarks

-- of all inputs that begin with these bytes and may go on so, where no device failed; and of these bytes, where reading
-- failed after them
abbrev pub RemarkedAs : Job → (given : List ℕ) → How → Ending → Remarks → Type 0
RemarkedAs job given how (endings.Worked verdict) remarks =
    (rest : List ℕ) → Allows how rest → Remarked job (given ++ rest) remarks
RemarkedAs job given how (Unread read) remarks = SoFarRemarked job given remarks
RemarkedAs job given how Output remarks = Unit {0}

-- ---- before the output is flushed

-- one output and one verdict are those of all inputs that begin with these bytes and may go on so
abbrev pub AnsweredAll : Job → (given : List ℕ) → How → (out : List ℕ) → Verdict → Type 0
AnsweredAll job given how out verdict = (rest : List ℕ) → Allows how rest → Answered job (given ++ rest) out verdict

-- where no device failed, there is such an output
abbrev pub IsDecided : Job → (given : List ℕ) → How → Ending → Type 0
IsDecided job given how ending =
    (verdict : Verdict) → ending ≡ endings.Worked verdict → (out : List ℕ) × AnsweredAll job given how out verdict

-- the output is flushed, and the work ends so: it fails there exactly where that is then the ending, and only where its
-- writer does not say its room
abbrev pub FlushedAs : (ending flushed : Ending) → (failed_before failed_after : Bool) → (room : Option ℕ) → Type 0
FlushedAs (endings.Worked verdict) flushed failed_before failed_after room =
    ((flushed ≡ endings.Worked verdict) × (failed_after ≡ failed_before))
    ⊎ ((flushed ≡ Output) × (failed_after ≡ true) × (room ≡ None))
FlushedAs (Unread read) flushed failed_before failed_after room = flushed ≡ Unread read
FlushedAs Output flushed failed_before failed_after room = (flushed ≡ Output) × (failed_after ≡ failed_before)

-- the output did not fail before that
abbrev pub IsWritten : Ending → Type 0
IsWritten (endings.Worked verdict) = Unit {0}
IsWritten (Unread read) = Unit {0}
IsWritten Output = ⊥

-- the lines that report what the work came to
abbrev pub verdict_lines : Verdict → List ℕ
verdict_lines (Done unplaced) = mask_lines 64 1 unplaced
verdict_lines PixelsMayShow = pixels_line
verdict_lines (Refused stop) = fault_line stop
verdict_lines (RefusedLine stop) = building_line stop

-- and how it ended
abbrev pub ending_lines : Ending → List ℕ
ending_lines (endings.Worked verdict) = verdict_lines verdict
ending_lines (Unread read) = unread_line read
ending_lines Output = output_line

-- with what is remarked
abbrev pub ended_lines : Ended → List ℕ
ended_lines ended = remarks_told ended.ending ended.remarks ++ ending_lines ended.ending

-- the status, by the edits that found no place
abbrev pub mask_status : ℕ → ℕ
mask_status zero = DONE
mask_status (suc n) = REMARK

-- by what the work came to
abbrev pub verdict_status : Verdict → ℕ
verdict_status (Done unplaced) = mask_status unplaced
verdict_status PixelsMayShow = REMARK
verdict_status (Refused stop) = FAULT
verdict_status (RefusedLine stop) = FAULT

-- by how it ended
abbrev pub ending_status : Ending → ℕ
ending_status (endings.Worked verdict) = verdict_status verdict
ending_status (Unread read) = DEVICE
ending_status Output = DEVICE

-- ---- a run

-- this is the answer of all inputs that begin with these bytes and may go on so
abbrev pub AnswersAll : Job → (given : List ℕ) → How → Answer → Type 0
AnswersAll job given how a = (rest : List ℕ) → Allows how rest → Answers job (given ++ rest) a

-- where no device had failed, of an input that gave these bytes, read so, whose reader has failed or not; what was done
-- to the output's writer and to the error writer
pub data Ran (job : Job) (given : List ℕ) (how : How) (unread : Bool) (output errors : Change)
    (status : ℕ) : Type 0 where
  -- no device failed: exactly the output, the lines and the status of the answer
  as_answered : (a : Answer) → AnswersAll job given how a → unread ≡ false → output.failed_after ≡ false
      → output.after ≡ append_known output.before a.output → Reports errors a.lines
      → status ≡ a.status → Ran job given how unread output errors status
  -- reading failed after these bytes: exactly what is sure of them was written, and what is remarked of them told
  not_read : (out : List ℕ) (remarks : Remarks) → unread ≡ true → Sure job given out → SoFarRemarked job given remarks
      → output.after ≡ append_known output.before out
      → Reports errors (remark_lines remarks ++ unread_line (length given))
      → status ≡ DEVICE → Ran job given how unread output errors status
  -- the output failed: a beginning of it was written, and not all of it, whatever follows these bytes
  not_written : ((rest : List ℕ) → Allows how rest
      → (a : Answer) × Answers job (given ++ rest) a × AppendsFront output.before output.after a.output)
      → unread ≡ false → output.failed_after ≡ true → Reports errors output_line
      → status ≡ DEVICE → Ran job given how unread output errors status
  -- all of it was written, and then it was not flushed
  not_flushed : (a : Answer) → AnswersAll job given how a → unread ≡ false → output.failed_after ≡ true
      → output.room ≡ None → output.after ≡ append_known output.before a.output → Reports errors output_line
      → status ≡ DEVICE → Ran job given how unread output errors status
