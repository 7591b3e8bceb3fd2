-- What was read of a file decides its row, and what is done with it.
use Rattle.std.specs.Prelude.{◌≡◌, ℕ, List, [], ◌++◌, length, Bool, true, Result, Ok, Err}
use Rattle.dcm_base.specs.declared.tag.Tag.{Tag}
use Rattle.dcm_devices.specs.declared.device.WriteFailed.{WriteFailed}
use Rattle.dcm_devices.specs.Writing.{Writer}
use Rattle.dcm_table.specs.declared.ending.RowEnd.{RowEnd}
use Rattle.dcm_table.specs.declared.quoted.TextForm.{TextForm}
use Rattle.dcm_table.specs.Parts.{AppendsParts, AppendsFrontOfParts}
use Rattle.dcm_table.specs.Row.{row_parts}
use Rattle.dcm_table.specs.Shown.{Held}
use Rattle.dcm_cli.specs.Calls.{Reader}
use Rattle.dcm_cli.specs.Change.{Change}
use Rattle.dcm_cli.specs.ErrorLines.{Reports}
use Rattle.dcm_cli.specs.InputCalls.{How, Allows, ReadsInput}
use Rattle.dcm_cli.specs.Status.{DEVICE}
use Rattle.dcm_tables.specs.declared.file.FileEnd.{FileEnd}
use Rattle.dcm_tables.specs.declared.file.FileEnd.TheVariants.{Read, Unread}
use Rattle.dcm_tables.specs.RowOf.{RowOf, IsUndecided, FailsAfter}
use Rattle.dcm_tables.specs.Rows.{file_lines, file_status, unread_lines}

-- each file that begins with these bytes, and may go on so, has these cells and this end; or reading failed after them,
-- where more bytes could still change that
abbrev pub Comes : (columns : List Tag) → (given : List ℕ) → How → (cells : Held) → FileEnd → Type 0
Comes columns given how cells (Read end) = (rest : List ℕ) → Allows how rest → RowOf columns (given ++ rest) cells end
Comes columns given how cells (Unread count) = FailsAfter columns given cells.unknown × (count ≡ length given)

-- the reader failed in the calls exactly where that is how the reading ended
abbrev pub TellsEnd : (failed_before failed_after : Bool) → FileEnd → Type 0
TellsEnd failed_before failed_after (Read end) = failed_after ≡ failed_before
TellsEnd failed_before failed_after (Unread count) = failed_after ≡ true

-- a file was read by such calls, each of them only where more bytes could still change how the reading ends
pub record DecidesRow {R : Type 0} (r : Reader R) (before after : R) (columns : List Tag) (cells : Held)
    (end : FileEnd) : Type 0 where
  pub given : List ℕ
  pub how : How
  pub reads : ReadsInput r (IsUndecided columns) before given how after
  pub comes : Comes columns given how cells end
  pub failed : TellsEnd (r.has_failed before) (r.has_failed after) end

-- a file of this name was read so, its row was written, and what is wrong with it was reported after that; or the output
-- failed with a beginning of the row, and nothing was reported; or reading failed, and that was reported: it has no row
pub data DoesRow {R W : Type 0} (r : Reader R) (w : Writer W) (columns : List Tag) (form : TextForm) (name : List ℕ)
    (errors : Change) (from to : W) (before : R) (result : Result ℕ WriteFailed) (after : R) : Type 0 where
  row_written : (cells : Held) (end : RowEnd) → DecidesRow r before after columns cells (Read end)
      → AppendsParts (w.contents from) (w.contents to) (row_parts form name cells.slots)
      → w.has_failed to ≡ w.has_failed from → Reports errors (file_lines form name cells.slots cells.unknown end)
      → result ≡ Ok (file_status cells.slots end)
      → DoesRow r w columns form name errors from to before result after
  row_unwritten : (cells : Held) (end : RowEnd) (failure : WriteFailed)
      → DecidesRow r before after columns cells (Read end)
      → AppendsFrontOfParts (w.contents from) (w.contents to) (row_parts form name cells.slots)
      → w.has_failed to ≡ true → Reports errors [] → result ≡ Err failure
      → DoesRow r w columns form name errors from to before result after
  row_unread : (cells : Held) (count : ℕ) → DecidesRow r before after columns cells (Unread count) → to ≡ from
      → Reports errors (unread_lines form name cells.unknown count) → result ≡ Ok DEVICE
      → DoesRow r w columns form name errors from to before result after
