-- What is done with words that ask for dumps of several files.
use Rattle.std.specs.Prelude.{◌≡◌, ℕ, List, Result, Ok, Err}
use Rattle.std.specs.IoError.{error_kind}
use Rattle.std.specs.declared.io.Error.{Error}
use Rattle.dcm_devices.specs.declared.device.WriteFailed.{WriteFailed}
use Rattle.dcm_devices.specs.Writing.{Writer}
use Rattle.dcm_files.specs.declared.opened.FileKind.{FileKind}
use Rattle.dcm_files.specs.declared.opened.Opened.{Opened}
use Rattle.dcm_files.specs.declared.opened.Unopened.{Unopened}
use Rattle.dcm_files.specs.declared.opened.Unopened.TheVariants.{Output}
use Rattle.dcm_files.specs.Devices.{MayDo, Closes, IsCause}
use Rattle.dcm_table_words.specs.declared.usage.TableUsage.TheVariants as table_usages
use Rattle.dcm_table_words.specs.Usages as table_words
use Rattle.dcm_cli.specs.Calls.{Reader}
use Rattle.dcm_cli.specs.Change.{Change}
use Rattle.dcm_cli.specs.ErrorLines as error_lines
use Rattle.dcm_cli.specs.ErrorLines.{Reports, output_line}
use Rattle.dcm_cli.specs.Program.{Follows, unopened_line, unopened_status}
use Rattle.dcm_cli.specs.Status.{DEVICE, USAGE}
use Rattle.dcm_each.specs.Each.{Writing}
use Rattle.dcm_dumps.specs.declared.plan.DumpsUsage.{DumpsUsage}
use Rattle.dcm_dumps.specs.declared.plan.DumpsUsage.TheVariants.{Words, StandardTwice}
use Rattle.dcm_dumps.specs.Words.{Dumps, meant_dumps, total_of}
use Rattle.dcm_dumps.specs.Dumps.{ShowsAll}

-- ---- refusals

-- the line that reports why words are refused, and the status
abbrev pub usage_line : DumpsUsage → List ℕ
usage_line (Words u) = error_lines.usage_line u
usage_line StandardTwice = table_words.usage_line table_usages.StandardTwice

abbrev pub usage_status : DumpsUsage → ℕ
usage_status (Words u) = error_lines.usage_status u
usage_status StandardTwice = USAGE

-- ---- dumps

-- the dumps that words mean were written to an output on this
abbrev pub ShowsMeant : {S I O W : Type 0} → MayDo S I O → Reader I → Writer W → Dumps → FileKind → Writing S W
ShowsMeant may r w d output errors from to before result after =
    ShowsAll may r w (record { job = d.job; output = output; total = total_of d.names }) d.names errors from to before
    result after

-- the dumps were written to an output; or it failed, and that is reported
pub data PutsDumps {S O : Type 0} (Shows : Writing S O) (errors : Change) (from to : O) (before : S) (status : ℕ)
    (after : S) : Type 0 where
  put : Shows errors from to before (Ok status) after → PutsDumps Shows errors from to before status after
  not_put : (failure : WriteFailed) (of_dumps of_line : Change) → Shows of_dumps from to before (Err failure) after
      → Reports of_line output_line → status ≡ DEVICE → Follows errors of_dumps of_line
      → PutsDumps Shows errors from to before status after

-- standard output cannot be opened, and that is reported; or the dumps were written to it, and it was closed
pub data MakesDumps {S I O : Type 0} (may : MayDo S I O) (r : Reader I) (w : Writer O) (d : Dumps) (errors : Change)
    (before : S) (status : ℕ) (after : S) : Type 0 where
  no_stdout : (cause : Error) (u : Unopened) → may.stdout before (Err cause) after
      → IsCause (error_kind cause) Output u → Reports errors (unopened_line u) → status ≡ unopened_status u
      → MakesDumps may r w d errors before status after
  made : (o : Opened O) (output : O) (has_output written : S) → may.stdout before (Ok o) has_output
      → PutsDumps (ShowsMeant may r w d o.kind) errors o.device output has_output status written
      → Closes may written output after → MakesDumps may r w d errors before status after

-- words are refused, and that is reported, with nothing done with the system; or what they mean was shown
pub data ObeysDumps {S I O : Type 0} (may : MayDo S I O) (r : Reader I) (w : Writer O) (words : List (List ℕ))
    (errors : Change) (before : S) (status : ℕ) (after : S) : Type 0 where
  refused : (u : DumpsUsage) → meant_dumps words ≡ Err u → Reports errors (usage_line u) → status ≡ usage_status u
      → after ≡ before → ObeysDumps may r w words errors before status after
  showed : (d : Dumps) → meant_dumps words ≡ Ok d → MakesDumps may r w d errors before status after
      → ObeysDumps may r w words errors before status after
