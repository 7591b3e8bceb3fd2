-- The days by which the dates of a file are moved, where the key makes them, and why there are none.
use Rattle.std.specs.Prelude.{◌≡◌, ◌≢◌, ℕ, ℤ, List, Bool, true, false, Result, Ok, Err}
use Rattle.std.specs.IoError.{error_kind}
use Rattle.std.specs.declared.io.Error.{Error}
use Rattle.std.specs.declared.io.ErrorKind.{ErrorKind}
use Rattle.std.specs.declared.io.ErrorKind.TheVariants as kinds
use Rattle.dcm_words.specs.declared.usage.Usage.TheVariants as usages
use Rattle.dcm_files.specs.declared.opened.FileKind.{FileKind}
use Rattle.dcm_files.specs.declared.opened.FileKind.TheVariants as files
use Rattle.dcm_files.specs.declared.opened.Opened.{Opened}
use Rattle.dcm_files.specs.Devices.{MayDo, OpensInput}
use Rattle.dcm_cli.specs.declared.days.NoDays.{NoDays}
use Rattle.dcm_cli.specs.declared.days.NoDays.TheVariants.{Unopened, Memory, NotRegular, Unread, Refused}
use Rattle.dcm_cli.specs.declared.first.FirstEnd.{FirstEnd}
use Rattle.dcm_cli.specs.declared.first.FirstEnd.TheVariants as ends
use Rattle.dcm_cli.specs.First.{ReadsFirst}
use Rattle.dcm_cli.specs.InputCalls.{Reader}
use Rattle.dcm_cli.specs.ErrorLines.{fault_line, irregular_line, open_line, unread_line, usage_line, usage_status}
use Rattle.dcm_cli.specs.Status.{DEVICE, FAULT}

-- why a file cannot be opened, by the kind of the error
pub record IsDaysCause (kind : ErrorKind) (cause : NoDays) : Type 0 where
  pub memory : kind ≡ kinds.OutOfMemory → cause ≡ Memory
  pub other : kind ≢ kinds.OutOfMemory → cause ≡ Unopened

-- whether a file can be read twice
abbrev pub is_regular : FileKind → Bool
is_regular (files.Regular device number size) = true
is_regular files.Directory = false
is_regular files.Other = false
is_regular files.Unknown = false

-- what a first reading comes to
abbrev pub days_of : FirstEnd → Result ℤ NoDays
days_of (ends.Days days) = Ok days
days_of (ends.Refused stop) = Err (Refused stop)
days_of (ends.Unread count) = Err (Unread count)

-- a file was opened, and given back: read as far as its patient, where it is a regular one
pub data TakesDays {S I O : Type 0} (may : MayDo S I O) (r : Reader I) (path key : List ℕ) (before : S)
    (result : Result ℤ NoDays) (after : S) : Type 0 where
  not_opened : (e : Error) (cause : NoDays) → OpensInput may path before (Err e) after
      → IsDaysCause (error_kind e) cause → result ≡ Err cause → TakesDays may r path key before result after
  not_regular : (i : Opened I) (has_input : S) → OpensInput may path before (Ok i) has_input
      → is_regular i.kind ≡ false → may.releases has_input i.device after → result ≡ Err NotRegular
      → TakesDays may r path key before result after
  was_read : (i : Opened I) (left : I) (has_input : S) (end : FirstEnd)
      → OpensInput may path before (Ok i) has_input → is_regular i.kind ≡ true
      → ReadsFirst r i.device left key end → may.releases has_input left after → result ≡ days_of end
      → TakesDays may r path key before result after

-- the line that reports why there are none, and the status
abbrev pub no_days_line : NoDays → List ℕ
no_days_line Unopened = open_line false
no_days_line Memory = usage_line usages.Memory
no_days_line NotRegular = irregular_line
no_days_line (Unread count) = unread_line count
no_days_line (Refused stop) = fault_line stop

abbrev pub no_days_status : NoDays → ℕ
no_days_status Unopened = DEVICE
no_days_status Memory = usage_status usages.Memory
no_days_status NotRegular = DEVICE
no_days_status (Unread count) = DEVICE
no_days_status (Refused stop) = FAULT
