-- The program over the system that it runs on, whose devices are over readers and writers of the standard library. Of
-- these it is known which bytes they said they gave or took.
use Rattle.std.specs.Prelude.{◌≡◌, ℕ, List, [], false, Option, None, Some, Result, Ok, Err}
use Rattle.dcm_devices.specs.Device.{Notes, TakesFrom, Gave}
use Rattle.dcm_devices.specs.StdDevice.{IsOfBytes}
use Rattle.dcm_devices.specs.Writing.{Writer}
use Rattle.dcm_devices.specs.declared.std_device.Std.{Std}
use Rattle.dcm_files.specs.Call.{Call}
use Rattle.dcm_files.specs.Devices.{MayDo}
use Rattle.dcm_files.specs.Host.{IsNew}
use Rattle.dcm_files.specs.declared.host.NoHost.{NoHost}
use Rattle.dcm_words.specs.Words.{Job}
use Rattle.dcm_cli.specs.Calls.{Reader, Runs}
use Rattle.dcm_cli.specs.Change.{Change, change_of}
use Rattle.dcm_cli.specs.ErrorLines.{Reports, open_line}
use Rattle.dcm_cli.specs.InputCalls.{How, IsUndecided, ReadsInput}
use Rattle.dcm_cli.specs.Run.{Ran}
use Rattle.dcm_cli.specs.Status.{DEVICE}
use Rattle.dcm_tables.specs.TableProgram.{Starts, TreeRuns}

-- the members of a device over a reader, of which that tells what it has still to give; and of one over a writer
abbrev pub std_reader : {T : Type 0} → (tells : T → Option (List ℕ)) → Reader (Std T)
std_reader tells = record {
  has_failed = λ s. s.failed;
  remaining = λ s. None;
  gets = λ before bytes after. Notes before.passed.bytes after.passed.bytes bytes
      × TakesFrom (tells before.inner) (tells after.inner) bytes × IsOfBytes bytes;
}

abbrev pub std_writer : {T : Type 0} → Writer (Std T)
std_writer = record {
  has_failed = λ s. s.failed;
  contents = λ s. Some s.passed.bytes;
  room = λ s. None;
  is_flushed = λ s. s.passed.is_flushed;
}

-- all bytes that calls of a new reader gave are those that passed it
abbrev pub GivesWhatPassed : (T : Type 0) → (tells : T → Option (List ℕ)) → Type 0
GivesWhatPassed T tells =
    (before after : Std T) (given : List ℕ) → IsNew before
    → Gave (std_reader tells).gets before given after → given ≡ after.passed.bytes

-- a run over new devices: the bytes that its output took are what comes of the bytes that its input gave, and how its
-- reading ended is what its calls say, none of which was made once the answer was decided
abbrev pub RunsByBytes : (T U : Type 0) → (tells : T → Option (List ℕ)) → Type 0
RunsByBytes T U tells =
    (job : Job) (errors : Change) (before after : Std T) (output_before output_after : Std U) (status : ℕ)
    → IsNew before → IsNew output_before
    → Runs (std_reader tells) std_writer job errors before after output_before output_after status
    → (how : How) × ReadsInput (std_reader tells) (IsUndecided job) before after.passed.bytes how after
    × Ran job after.passed.bytes how after.failed (change_of std_writer output_before output_after) errors status

-- the program ended with this status, and these are left: a system of which no call had been made gave words, and they
-- were obeyed, or there was no memory for them; or the system was asked for and could not be used, and no call of it was
-- made. What a run over a tree does is said of what standard error was and is.
pub data ProgramEnds {S I O E : Type 0} (calls : S → List Call) (may : MayDo S I O) (r : Reader I) (w : Writer O)
    (Trees : (from to : Std E) → TreeRuns S) (host : Result S NoHost) (errors : Std E) (status : ℕ) : Type 0 where
  started : (errors_before : Std E) (before after : S) → IsNew errors_before → calls before ≡ [] → host ≡ Ok after
      → Starts may r w (Trees errors_before errors) (change_of std_writer errors_before errors) before status after
      → ProgramEnds calls may r w Trees host errors status
  not_started : (errors_before : Std E) (cause : NoHost) → IsNew errors_before → host ≡ Err cause
      → Reports (change_of std_writer errors_before errors) (open_line false) → status ≡ DEVICE
      → ProgramEnds calls may r w Trees host errors status
