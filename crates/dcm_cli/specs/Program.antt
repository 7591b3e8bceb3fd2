-- What a program does with the words of its command line.
use Rattle.std.specs.Prelude.{◌≡◌, ◌≢◌, ℕ, ℤ, List, [], Bool, true, false, Option, Some, None, Result, Ok, Err}
use Rattle.std.specs.Io.KnownBytes.{append_known}
use Rattle.std.specs.IoError.{error_kind}
use Rattle.std.specs.declared.io.Error.{Error}
use Rattle.dcm_devices.specs.Device.{AppendsFront}
use Rattle.dcm_devices.specs.Writing.{Writer}
use Rattle.dcm_words.specs.declared.topic.Topic.{Topic}
use Rattle.dcm_words.specs.Topics.{asked, text}
use Rattle.dcm_words.specs.declared.usage.Usage.{Usage}
use Rattle.dcm_words.specs.declared.usage.Usage.TheVariants as usages
use Rattle.dcm_words.specs.Words.{Job, Plan, meant, deidentify, with_days}
use Rattle.dcm_words.specs.Plans.{takes_memory}
use Rattle.dcm_files.specs.declared.opened.Opened.{Opened}
use Rattle.dcm_files.specs.declared.opened.Unopened.{Unopened}
use Rattle.dcm_files.specs.declared.opened.Unopened.TheVariants.{Input, Output, Same, There, Part, Memory}
use Rattle.dcm_files.specs.Devices.{MayDo, Closes, IsCause, OpensDevices}
use Rattle.dcm_files.specs.Part.{OpensWholeDevices, EndsPart}
use Rattle.dcm_files.specs.declared.opened.FileKind.{FileKind}
use Rattle.dcm_deid.specs.declared.fate.Options.{Options}
use Rattle.dcm_cli.specs.declared.days.NoDays.{NoDays}
use Rattle.dcm_cli.specs.declared.key.KeyRead.{KeyRead}
use Rattle.dcm_cli.specs.declared.key.NoKey.{NoKey}
use Rattle.dcm_cli.specs.Days.{TakesDays, no_days_line, no_days_status}
use Rattle.dcm_cli.specs.Keys.{TakesKey, no_key_line, no_key_status}
use Rattle.dcm_cli.specs.declared.ending.Ended.{Ended}
use Rattle.dcm_cli.specs.declared.ending.Ending.{Ending}
use Rattle.dcm_cli.specs.declared.ending.Ending.TheVariants.{Worked, Unread, Output as FailedOutput}
use Rattle.dcm_cli.specs.Calls.{Reader, Runs, FinishesOn}
use Rattle.dcm_cli.specs.Change.{Change, change_of}
use Rattle.dcm_cli.specs.ErrorLines.{Reports, usage_line, usage_status, open_line, same_line, there_line, part_line, output_line}
use Rattle.dcm_cli.specs.Run.{ended_lines, ending_status}
use Rattle.dcm_cli.specs.Status.{DEVICE, DONE, MEMORY}

-- the line that reports why a job was not begun
abbrev pub unopened_line : Unopened → List ℕ
unopened_line Input = open_line false
unopened_line Output = open_line true
unopened_line Same = same_line
unopened_line There = there_line
unopened_line Part = part_line
unopened_line Memory = usage_line usages.Memory

-- and the status
abbrev pub unopened_status : Unopened → ℕ
unopened_status Memory = MEMORY
unopened_status _ = DEVICE

-- devices were given back: how the closing of the output went
pub record GivesBack {S I O : Type 0} (may : MayDo S I O) (input : I) (output : O) (before : S)
    (closing : Result (Unit {0}) Error) (after : S) : Type 0 where
  pub between : S
  pub closed : may.closes before output closing between
  pub released : may.releases between input after

-- how a job ended whose output lost bytes as it was closed
abbrev pub lost : Ending → Ending
lost (Worked verdict) = FailedOutput
lost (Unread read) = Unread read
lost FailedOutput = FailedOutput

abbrev pub with_loss : Ended → Ended
with_loss ended = record { remarks = ended.remarks; ending = lost ended.ending }

abbrev pub after_closing : Ended → Result (Unit {0}) Error → Ended
after_closing ended (Ok _) = ended
after_closing ended (Err e) = with_loss ended

-- a job was run over these devices, and they were given back exactly as it left them. Where the output lost bytes as
-- it was closed, that is reported as a failure of the output is
pub data RunsOver {S I O : Type 0} (may : MayDo S I O) (r : Reader I) (w : Writer O) (job : Job) (errors : Change)
    (i : I) (o : O) (before : S) (status : ℕ) (after : S) : Type 0 where
  closed_well : (input : I) (output : O) → Runs r w job errors i input o output status
      → GivesBack may input output before (Ok _) after → RunsOver may r w job errors i o before status after
  closed_with_loss : (input : I) (output : O) (ended : Ended) (e : Error)
      → FinishesOn r w job i input o output ended → GivesBack may input output before (Err e) after
      → Reports errors (ended_lines (with_loss ended)) → status ≡ ending_status (lost ended.ending)
      → RunsOver may r w job errors i o before status after

-- the devices of a plan cannot be opened, and that is reported; or its job was run over them. Nothing else was done
-- with the system
pub data Works {S I O : Type 0} (may : MayDo S I O) (r : Reader I) (w : Writer O) (p : Plan) (errors : Change)
    (before : S) (status : ℕ) (after : S) : Type 0 where
  not_opened : (u : Unopened) → OpensDevices may p.input p.output p.overwrites before (Err u) after
      → Reports errors (unopened_line u) → status ≡ unopened_status u → Works may r w p errors before status after
  has_run : (i : Opened I) (o : Opened O) (has_both : S)
      → OpensDevices may p.input p.output p.overwrites before (Ok (i, o)) has_both
      → RunsOver may r w p.job errors i.device o.device has_both status after
      → Works may r w p errors before status after

-- ---- identity taken out of a file

-- a writer was changed by one call, and then by another
pub record Follows (whole first second : Change) : Type 0 where
  pub begins : (first.before ≡ whole.before) × (first.failed_before ≡ whole.failed_before)
  pub meets : (second.before ≡ first.after) × (second.failed_before ≡ first.failed_after)
  pub ends : (whole.after ≡ second.after) × (whole.failed_after ≡ second.failed_after)

-- after a run with this status the output was given its name where all was done, and else removed. Where it cannot be
-- given its name, that is reported
pub data EndsOutput {S I O : Type 0} (may : MayDo S I O) (output : List ℕ) (ran : ℕ) (errors : Change) (before : S)
    (status : ℕ) (after : S) : Type 0 where
  named : ran ≡ DONE → EndsPart may output true before (Ok _) after → Reports errors [] → status ≡ DONE
      → EndsOutput may output ran errors before status after
  not_named : (e : Error) → ran ≡ DONE → EndsPart may output true before (Err e) after → Reports errors output_line
      → status ≡ DEVICE → EndsOutput may output ran errors before status after
  removed : (removing : Result (Unit {0}) Error) → ran ≢ DONE → EndsPart may output false before removing after
      → Reports errors [] → status ≡ ran → EndsOutput may output ran errors before status after

-- the devices of a plan cannot be opened, and that is reported; or a job was run over them, and then its output was
-- ended. The output is not the file that was read earlier
pub data WorksWhole {S I O : Type 0} (may : MayDo S I O) (r : Reader I) (w : Writer O) (p : Plan) (job : Job)
    (earlier : Option FileKind) (errors : Change) (before : S) (status : ℕ) (after : S) : Type 0 where
  none_opened : (u : Unopened) → OpensWholeDevices may p.input p.output p.overwrites earlier before (Err u) after
      → Reports errors (unopened_line u) → status ≡ unopened_status u
      → WorksWhole may r w p job earlier errors before status after
  has_ended : (i : Opened I) (o : Opened O) (has_both has_run : S) (ran : ℕ) (of_run of_end : Change)
      → OpensWholeDevices may p.input p.output p.overwrites earlier before (Ok (i, o)) has_both
      → RunsOver may r w job of_run i.device o.device has_both ran has_run
      → EndsOutput may p.output ran of_end has_run status after → Follows errors of_run of_end
      → WorksWhole may r w p job earlier errors before status after

-- the days are made of the patient whom the input names, which is read for it, and then opened anew; where there are
-- none, that is reported, and nothing is written
pub data MovesByKey {S I O : Type 0} (may : MayDo S I O) (r : Reader I) (w : Writer O) (p : Plan) (options : Options)
    (reports : Bool) (k : KeyRead) (errors : Change) (before : S) (status : ℕ) (after : S) : Type 0 where
  no_days : (cause : NoDays) → TakesDays may r p.input k.bytes.items before (Err cause) after
      → Reports errors (no_days_line cause) → status ≡ no_days_status cause
      → MovesByKey may r w p options reports k errors before status after
  by_days : (days : ℤ) (has_days : S) → TakesDays may r p.input k.bytes.items before (Ok days) has_days
      → WorksWhole may r w p (deidentify (with_days options days) reports k.bytes.items) (Some k.kind) errors has_days
      status after
      → MovesByKey may r w p options reports k errors before status after

-- the key is read first, where the plan names one; where it cannot be, that is reported, and nothing else is opened
pub data Deidentifies {S I O : Type 0} (may : MayDo S I O) (r : Reader I) (w : Writer O) (p : Plan)
    (options : Options) (reports : Bool) (errors : Change) (before : S) (status : ℕ) (after : S) : Type 0 where
  without_key : p.key ≡ None → WorksWhole may r w p p.job None errors before status after
      → Deidentifies may r w p options reports errors before status after
  no_key : (path : List ℕ) (cause : NoKey) → p.key ≡ Some path → TakesKey may r path before (Err cause) after
      → Reports errors (no_key_line cause) → status ≡ no_key_status cause
      → Deidentifies may r w p options reports errors before status after
  with_key : (path : List ℕ) (k : KeyRead) (has_key : S) → p.key ≡ Some path
      → TakesKey may r path before (Ok k) has_key → p.days_by_key ≡ false
      → WorksWhole may r w p (deidentify options reports k.bytes.items) (Some k.kind) errors has_key status after
      → Deidentifies may r w p options reports errors before status after
  with_days_of_key : (path : List ℕ) (k : KeyRead) (has_key : S) → p.key ≡ Some path
      → TakesKey may r path before (Ok k) has_key → p.days_by_key ≡ true
      → MovesByKey may r w p options reports k errors has_key status after
      → Deidentifies may r w p options reports errors before status after

-- what is done of a plan with this job
abbrev pub WorksAs : {S I O : Type 0} → Job → MayDo S I O → Reader I → Writer O → Plan → Change → S → (status : ℕ) → S
    → Type 0
WorksAs (deidentify options reports key) may r w p errors before status after =
    Deidentifies may r w p options reports errors before status after
WorksAs job may r w p errors before status after = Works may r w p errors before status after

-- ---- texts

-- all of a text was written, and nothing is reported; or the output failed, with a beginning of it or as it was
-- flushed, and that is reported
pub data PutsText (text : List ℕ) (output errors : Change) (status : ℕ) : Type 0 where
  put : output.after ≡ append_known output.before text → output.failed_after ≡ output.failed_before
      → (output.failed_after ≡ false → output.is_flushed ≡ true) → Reports errors [] → status ≡ DONE
      → PutsText text output errors status
  not_put : AppendsFront output.before output.after text → output.failed_after ≡ true → Reports errors output_line
      → status ≡ DEVICE → PutsText text output errors status
  not_flushed : output.after ≡ append_known output.before text → output.failed_after ≡ true → output.room ≡ None
      → Reports errors output_line → status ≡ DEVICE → PutsText text output errors status

-- a text is shown on standard output, which is then closed; or that cannot be opened, and this is reported
pub data Shows {S I O : Type 0} (may : MayDo S I O) (w : Writer O) (text : List ℕ) (errors : Change) (before : S)
    (status : ℕ) (after : S) : Type 0 where
  no_stdout : (cause : Error) (u : Unopened) → may.stdout before (Err cause) after
      → IsCause (error_kind cause) Output u → Reports errors (unopened_line u)
      → status ≡ unopened_status u → Shows may w text errors before status after
  shows : (o : Opened O) (output : O) (has_output : S) → may.stdout before (Ok o) has_output
      → PutsText text (change_of w o.device output) errors status
      → Closes may has_output output after → Shows may w text errors before status after

-- the words ask for a text, which is shown; or they are refused, and that is reported, with nothing done with the
-- system; or what they mean was done
pub data Obeys {S I O : Type 0} (may : MayDo S I O) (r : Reader I) (w : Writer O) (words : List (List ℕ))
    (errors : Change) (before : S) (status : ℕ) (after : S) : Type 0 where
  asks : (topic : Topic) → asked words ≡ Some topic → Shows may w (text topic) errors before status after
      → Obeys may r w words errors before status after
  refused : (u : Usage) → asked words ≡ None → meant words ≡ Err u → Reports errors (usage_line u)
      → status ≡ usage_status u → after ≡ before → Obeys may r w words errors before status after
  no_memory : asked words ≡ None → takes_memory words ≡ true → Reports errors (usage_line usages.Memory)
      → status ≡ usage_status usages.Memory → after ≡ before → Obeys may r w words errors before status after
  worked : (p : Plan) → asked words ≡ None → meant words ≡ Ok p → WorksAs p.job may r w p errors before status after
      → Obeys may r w words errors before status after

-- there was no memory, and that is reported
pub record NoMemory (errors : Change) (status : ℕ) : Type 0 where
  pub line : Reports errors (usage_line usages.Memory)
  pub status_is : status ≡ usage_status usages.Memory
