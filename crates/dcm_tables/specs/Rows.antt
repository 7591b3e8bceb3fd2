-- What is done with one file: its row, the lines after it, and its status.
use Rattle.std.specs.Prelude.{◌≡◌, ℕ, List, [], ◌∷◌, ◌++◌, flat_map, option_to_list, Bool, true, false, Result, Ok, Err}
use Rattle.dcm_base.specs.declared.tag.Tag.{Tag}
use Rattle.dcm_devices.specs.declared.device.WriteFailed.{WriteFailed}
use Rattle.dcm_devices.specs.Writing.{Writer}
use Rattle.dcm_names.specs.NamedLines.{fault_line, too_long_line, unknown_lines, unread_line}
use Rattle.dcm_table.specs.declared.ending.RowEnd.{RowEnd}
use Rattle.dcm_table.specs.declared.ending.RowEnd.TheVariants.{Refused}
use Rattle.dcm_table.specs.declared.quoted.TextForm.{TextForm}
use Rattle.dcm_table.specs.declared.quoted.TextForm.TheVariants.{ValidUtf8, AsItIs, Decoded}
use Rattle.dcm_table.specs.Parts.{AppendsParts, AppendsFrontOfParts}
use Rattle.dcm_table.specs.Row.{reported_after, row_parts}
use Rattle.dcm_table.specs.TableSink.{Slot, State}
use Rattle.dcm_cli.specs.Calls.{Reader}
use Rattle.dcm_cli.specs.Change.{Change}
use Rattle.dcm_cli.specs.ErrorLines.{Reports}
use Rattle.dcm_cli.specs.Status.{DEVICE, DONE, FAULT}
use Rattle.dcm_tables.specs.declared.file.FileEnd.TheVariants.{Read, Unread}
use Rattle.dcm_tables.specs.Files.{ReadsFile}

-- ---- the lines of a file that was read

-- the tags of values that are too long, each once, in the order of the columns; these columns are before
abbrev pub long_tags : (before : List Slot) → List Slot → List Tag
long_tags before [] = []
long_tags before (c ∷ slots) = option_to_list (reported_after before c) ++ long_tags (before ++ c ∷ []) slots

-- a line for each
abbrev pub long_lines : (name : List ℕ) → (before : List Slot) → List Slot → List ℕ
long_lines name before slots = flat_map (too_long_line name) (long_tags before slots)

abbrev pub end_lines : (name : List ℕ) → RowEnd → List ℕ
end_lines name (Refused stop) = fault_line name stop
end_lines name _ = []

-- a character set that is not known is told where texts are decoded
abbrev pub unknown_told : TextForm → Bool → Bool
unknown_told Decoded unknown = unknown
unknown_told ValidUtf8 unknown = false
unknown_told AsItIs unknown = false

-- it comes after values that are too long, and the fault comes last
abbrev pub file_lines : TextForm → (name : List ℕ) → List Slot → (unknown : Bool) → RowEnd → List ℕ
file_lines form name slots unknown end =
    long_lines name [] slots ++ unknown_lines name (unknown_told form unknown) ++ end_lines name end

-- where reading failed
abbrev pub unread_lines : TextForm → (name : List ℕ) → (unknown : Bool) → (count : ℕ) → List ℕ
unread_lines form name unknown count = unknown_lines name (unknown_told form unknown) ++ unread_line name count

abbrev pub long_status : List Tag → ℕ
long_status [] = DONE
long_status (tag ∷ tags) = FAULT

-- whether something is wrong with it
abbrev pub file_status : List Slot → RowEnd → ℕ
file_status slots (Refused stop) = FAULT
file_status slots _ = long_status (long_tags [] slots)

-- ---- all that is done with it

-- a file of this name was read into emptied cells, its row was written, and what is wrong with it was reported after
-- that; or the output failed with a beginning of the row, and nothing was reported; or reading failed, and that was
-- reported: it has no row
pub data DoesFile {R W : Type 0} (r : Reader R) (w : Writer W) (first : State) (form : TextForm) (name : List ℕ)
    (errors : Change) (from to : W) (before : R) (result : Result ℕ WriteFailed) (after : R) : Type 0 where
  written : (cells : State) (end : RowEnd) → ReadsFile r before after first cells (Read end)
      → AppendsParts (w.contents from) (w.contents to) (row_parts form name cells.slots)
      → w.has_failed to ≡ w.has_failed from → Reports errors (file_lines form name cells.slots cells.unknown end)
      → result ≡ Ok (file_status cells.slots end) → DoesFile r w first form name errors from to before result after
  not_written : (cells : State) (end : RowEnd) (failure : WriteFailed)
      → ReadsFile r before after first cells (Read end)
      → AppendsFrontOfParts (w.contents from) (w.contents to) (row_parts form name cells.slots)
      → w.has_failed to ≡ true → Reports errors [] → result ≡ Err failure
      → DoesFile r w first form name errors from to before result after
  not_read : (cells : State) (count : ℕ) → ReadsFile r before after first cells (Unread count)
      → to ≡ from → Reports errors (unread_lines form name cells.unknown count) → result ≡ Ok DEVICE
      → DoesFile r w first form name errors from to before result after
