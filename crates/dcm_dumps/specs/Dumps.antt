-- What the dumps of several files leave, one after another.
use Rattle.std.specs.Prelude.{◌≡◌, ◌⊎◌, ℕ, suc, ◌-◌, ◌^◌, nat_lt, List, [], ◌++◌, length, Bool, true, false, Option}
use Rattle.std.specs.Prelude.{Some, None, Result, Ok, Err, IfOk, if◌then◌else◌}
use Rattle.std.specs.Io.KnownBytes.{append_known}
use Rattle.dcm_devices.specs.declared.device.WriteFailed.{WriteFailed}
use Rattle.dcm_devices.specs.Device.{AppendsFront}
use Rattle.dcm_devices.specs.Writing.{Writer}
use Rattle.dcm_files.specs.declared.opened.FileKind.{FileKind}
use Rattle.dcm_files.specs.declared.opened.Opened.{Opened}
use Rattle.dcm_files.specs.declared.opened.Unopened.{Unopened}
use Rattle.dcm_files.specs.Devices.{MayDo, clash}
use Rattle.dcm_names.specs.NamedLines.{clash_line, fault_line, unknown_lines, unread_line}
use Rattle.dcm_words.specs.Words.{Job}
use Rattle.dcm_table_words.specs.Table.{Name}
use Rattle.dcm_cli.specs.declared.ending.Ended.{Ended}
use Rattle.dcm_cli.specs.declared.ending.Ending.{Ending}
use Rattle.dcm_cli.specs.declared.ending.Ending.TheVariants.{Worked, Unread, Output}
use Rattle.dcm_cli.specs.declared.ending.Remarks.{Remarks}
use Rattle.dcm_cli.specs.declared.ending.Verdict.{Verdict}
use Rattle.dcm_cli.specs.declared.ending.Verdict.TheVariants.{Refused}
use Rattle.dcm_cli.specs.Answer.{Sure}
use Rattle.dcm_cli.specs.Calls.{Reader}
use Rattle.dcm_cli.specs.Change.{Change}
use Rattle.dcm_cli.specs.ErrorLines.{Reports}
use Rattle.dcm_cli.specs.InputCalls.{How, Allows, ReadsInput, IsUndecided}
use Rattle.dcm_cli.specs.Run.{Answered, AnsweredAll, Remarked, SoFarRemarked}
use Rattle.dcm_cli.specs.Status.{DEVICE, DONE, FAULT}
use Rattle.dcm_each.specs.Each.{Work, Writing, DoesName, DoesAll}
use Rattle.dcm_dumps.specs.Heading.{heading}

-- ---- what all of them share

-- how each file is shown, what the output is on, and how many names there are, where that is known
pub record Manner : Type 0 where
  pub job : Job
  pub output : FileKind
  pub total : Option ℕ

-- what goes from one file to the next: the output, how many names came, and whether no heading was written so far
pub record Shown (W : Type 0) : Type 0 where
  pub out : W
  pub number : ℕ
  pub is_first : Bool

abbrev pub nothing_shown : {W : Type 0} → W → Shown W
nothing_shown out = record { out = out; number = 0; is_first = true }

-- the greatest number, which no run reaches: it stays
abbrev pub MOST_NUMBER : ℕ
MOST_NUMBER = 2 ^ 64 - 1

abbrev pub next_number : ℕ → ℕ
next_number n = if nat_lt n MOST_NUMBER then suc n else n

abbrev pub next_heading : {W : Type 0} → Manner → Shown W → (name : List ℕ) → List ℕ
next_heading m from name = heading from.is_first (next_number from.number) m.total name

-- ---- lines and statuses

-- what is reported of a file that was read, and its status
abbrev pub verdict_lines : (name : List ℕ) → Verdict → List ℕ
verdict_lines name (Refused stop) = fault_line name stop
verdict_lines name _ = []

abbrev pub verdict_status : Verdict → ℕ
verdict_status (Refused stop) = FAULT
verdict_status _ = DONE

-- by how its dump ended
abbrev pub ending_lines : (name : List ℕ) → Ending → List ℕ
ending_lines name (Worked verdict) = verdict_lines name verdict
ending_lines name (Unread count) = unread_line name count
ending_lines name Output = []

-- with what is remarked of it, unless the output failed
abbrev pub remark_lines : (name : List ℕ) → Remarks → List ℕ
remark_lines name remarks = unknown_lines name remarks.unknown

abbrev pub remarks_told : (name : List ℕ) → Ending → Remarks → List ℕ
remarks_told name (Worked verdict) remarks = remark_lines name remarks
remarks_told name (Unread count) remarks = remark_lines name remarks
remarks_told name Output remarks = []

abbrev pub ended_lines : (name : List ℕ) → Ended → List ℕ
ended_lines name ended = remarks_told name ended.ending ended.remarks ++ ending_lines name ended.ending

abbrev pub ending_status : Ending → ℕ
ending_status (Worked verdict) = verdict_status verdict
ending_status (Unread count) = DEVICE
ending_status Output = DEVICE

-- the end of a dump: its output failed before; or it was flushed, and then what is wrong with its file was reported; or
-- it could not be flushed. Where the output failed nothing was reported
pub data EndsDump {W : Type 0} (w : Writer W) (name : List ℕ) (ended : Ended) (errors : Change) (from to : W)
    (result : Result ℕ WriteFailed) : Type 0 where
  failed_before : (failure : WriteFailed) → ended.ending ≡ Output → to ≡ from → Reports errors [] → result ≡ Err failure
      → EndsDump w name ended errors from to result
  flushed : (¬ (ended.ending ≡ Output)) → w.contents to ≡ w.contents from → w.has_failed to ≡ w.has_failed from
      → w.is_flushed to ≡ true
      → Reports errors (ended_lines name ended) → result ≡ Ok (ending_status ended.ending)
      → EndsDump w name ended errors from to result
  not_flushed : (failure : WriteFailed) → (¬ (ended.ending ≡ Output)) → w.contents to ≡ w.contents from
      → w.has_failed to ≡ true → w.room to ≡ None → Reports errors [] → result ≡ Err failure
      → EndsDump w name ended errors from to result

-- ---- one file

-- a dump of all that the bytes that were read decide
abbrev pub IsText : Job → (given : List ℕ) → How → (text : List ℕ) → Type 0
IsText job given how text = ((verdict : Verdict) × AnsweredAll job given how text verdict) ⊎ Sure job given text

-- what is remarked of all files that begin with these bytes and may go on so
abbrev pub RemarkedAll : Job → (given : List ℕ) → How → Remarks → Type 0
RemarkedAll job given how remarks = (rest : List ℕ) → Allows how rest → Remarked job (given ++ rest) remarks

-- the dump of a file that is read, after a heading
pub data ShowsFile {I W : Type 0} (r : Reader I) (w : Writer W) (job : Job) (heading name : List ℕ) (errors : Change)
    (from to : W) (before : I) (result : Result ℕ WriteFailed) (after : I) : Type 0 where
  -- no device failed: exactly the heading and the dump of each file that begins with the bytes that were read and may go
  -- on so were written and flushed, and then what is wrong with it was reported
  shown : (given : List ℕ) (how : How) (text : List ℕ) (verdict : Verdict) (remarks : Remarks)
      → ReadsInput r (IsUndecided job) before given how after → AnsweredAll job given how text verdict
      → RemarkedAll job given how remarks
      → r.has_failed after ≡ r.has_failed before → w.contents to ≡ append_known (w.contents from) (heading ++ text)
      → w.has_failed to ≡ w.has_failed from → w.is_flushed to ≡ true
      → Reports errors (remark_lines name remarks ++ verdict_lines name verdict)
      → result ≡ Ok (verdict_status verdict) → ShowsFile r w job heading name errors from to before result after
  -- reading failed: what is sure of the bytes that came was written and flushed, and then that was reported
  unread : (given : List ℕ) (how : How) (text : List ℕ) (remarks : Remarks)
      → ReadsInput r (IsUndecided job) before given how after
      → Sure job given text → SoFarRemarked job given remarks → r.has_failed after ≡ true
      → w.contents to ≡ append_known (w.contents from) (heading ++ text) → w.has_failed to ≡ w.has_failed from
      → w.is_flushed to ≡ true → Reports errors (remark_lines name remarks ++ unread_line name (length given))
      → result ≡ Ok DEVICE
      → ShowsFile r w job heading name errors from to before result after
  -- the output failed with a beginning of the heading
  not_headed : (failure : WriteFailed) → AppendsFront (w.contents from) (w.contents to) heading
      → w.has_failed to ≡ true → after ≡ before → Reports errors [] → result ≡ Err failure
      → ShowsFile r w job heading name errors from to before result after
  -- or with a beginning of the dump, and not all of it, whatever follows the bytes that were read
  not_written : (given : List ℕ) (how : How) (failure : WriteFailed)
      → ReadsInput r (IsUndecided job) before given how after
      → ((rest : List ℕ) → Allows how rest → (text : List ℕ) × (verdict : Verdict)
      × Answered job (given ++ rest) text verdict × AppendsFront (w.contents from) (w.contents to) (heading ++ text))
      → w.has_failed to ≡ true → Reports errors [] → result ≡ Err failure
      → ShowsFile r w job heading name errors from to before result after
  -- or all of it was written, and then it was not flushed
  not_flushed : (given : List ℕ) (how : How) (text : List ℕ) (failure : WriteFailed)
      → ReadsInput r (IsUndecided job) before given how after → IsText job given how text
      → w.contents to ≡ append_known (w.contents from) (heading ++ text)
      → w.has_failed to ≡ true → w.room to ≡ None → Reports errors [] → result ≡ Err failure
      → ShowsFile r w job heading name errors from to before result after

-- a file is the output, or may be, and that is reported: it has no heading; or it has a heading and its dump
pub data DoesDump {I W : Type 0} (r : Reader I) (w : Writer W) (m : Manner) (name : List ℕ) (errors : Change)
    (from to : Shown W) (before : Opened I) (result : Result ℕ WriteFailed) (after : I) : Type 0 where
  is_output : (cause : Unopened) → clash before.kind m.output ≡ Some cause → Reports errors (clash_line name cause)
      → to ≡ record from { number = next_number from.number } → after ≡ before.device → result ≡ Ok DEVICE
      → DoesDump r w m name errors from to before result after
  headed : clash before.kind m.output ≡ None
      → ShowsFile r w m.job (next_heading m from name) name errors from.out to.out before.device result after
      → to.number ≡ next_number from.number → IfOk result (λ status. to.is_first ≡ false)
      → DoesDump r w m name errors from to before result after

-- what is done with each name: one that cannot be opened is counted
abbrev pub dumps_into : {I W : Type 0} → Reader I → Writer W → Manner → Work I (Shown W)
dumps_into r w m = record {
  does = DoesDump r w m;
  passes = λ from to. to ≡ record from { number = next_number from.number };
}

-- ---- all files

-- the headings and dumps of all names were written; or the output failed at one of them, and no other was opened
abbrev pub ShowsAll : {S I O W : Type 0} → MayDo S I O → Reader I → Writer W → Manner → List Name → Writing S W
ShowsAll may r w m names errors from to before result after =
    (last : Shown _) × (last.out ≡ to)
    × DoesAll (DoesName may r (dumps_into r w m)) names errors (nothing_shown from) last before result after
