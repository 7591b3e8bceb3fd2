-- The statements of the laws.
use Rattle.std.specs.Prelude.{◌≡◌, ◌<◌, ◌≤◌, ℕ, List, [], ◌∷◌, ◌++◌, length, Bool, true, Result, Some, IsUtf8}
use Rattle.dcm_base.specs.declared.syntax.Syntax.{Syntax}
use Rattle.dcm_base.specs.declared.tag.Tag.{Tag}
use Rattle.dcm_base.specs.declared.vr.Vr.{Vr}
use Rattle.dcm_base.specs.Dump.ValueText.{display}
use Rattle.dcm_base.specs.Lines.ReadValue.{value_of_text}
use Rattle.dcm_base.specs.Tables.Number.{AreBytes}
use Rattle.dcm_base.specs.Tables.Transfer.{without_pads}
use Rattle.dcm_devices.specs.declared.device.WriteFailed.{WriteFailed}
use Rattle.dcm_devices.specs.Writing.{Writer}
use Rattle.dcm_table.specs.declared.ending.RowEnd.{RowEnd}
use Rattle.dcm_table.specs.declared.ending.RowEnd.TheVariants.{Decided}
use Rattle.dcm_table.specs.declared.quoted.TextForm.{TextForm}
use Rattle.dcm_table.specs.declared.quoted.TextForm.TheVariants.{AsItIs}
use Rattle.dcm_text.specs.declared.sets.Sets.{Sets}
use Rattle.dcm_table.specs.Cell.{CELL_LIMIT}
use Rattle.dcm_table.specs.Laws.{is_valid_form}
use Rattle.dcm_table.specs.Parts.{SpellsParts, some_bytes}
use Rattle.dcm_table.specs.Quoted.{quoted}
use Rattle.dcm_table.specs.Row.{cell_parts, is_quoted_text, row_parts}
use Rattle.dcm_table.specs.Shown.{Held, held_by, leaf_cell, settled_slots}
use Rattle.dcm_table.specs.TableSink.{Slot, State, begun}
use Rattle.dcm_files.specs.declared.memory.MemSystem.{MemSystem}
use Rattle.dcm_cli.specs.Calls.{Reader}
use Rattle.dcm_cli.specs.Change.{Change}
use Rattle.dcm_tables.specs.declared.file.FileEnd.{FileEnd}
use Rattle.dcm_tables.specs.Deciding.{DecidesRow, DoesRow}
use Rattle.dcm_tables.specs.Files.{ReadsFile}
use Rattle.dcm_tables.specs.RowOf.{RowOf, IsUndecided}
use Rattle.dcm_tables.specs.Rows.{DoesFile, file_lines, file_status}
use Rattle.dcm_tables.specs.TableInMemory.{TableOutcome, TableComes}

-- ---- what was read of a file

-- what is read of a file decides its row
abbrev pub RowIsRead : {R : Type 0} → Reader R → Type 0
RowIsRead {R} r =
    (columns : List Tag) (before after : R) (cells : State) (end : FileEnd)
    → ReadsFile r before after (begun columns) cells end
    → DecidesRow r before after columns (held_by cells) end

-- so does what is done with it
abbrev pub RowIsDone : {R W : Type 0} → Reader R → Writer W → Type 0
RowIsDone {R} {W} r w =
    (columns : List Tag) (form : TextForm) (name : List ℕ) (errors : Change) (from to : W) (before : R)
    (result : Result ℕ WriteFailed) (after : R)
    → DoesFile r w (begun columns) form name errors from to before result after
    → DoesRow r w columns form name errors from to before result after

-- a value that is not whole is not written, and not reported
abbrev pub RowIsSettled : Type 0
RowIsSettled =
    (form : TextForm) (name : List ℕ) (slots : List Slot) (unknown : Bool) (end : RowEnd)
    → (row_parts form name (settled_slots slots) ≡ row_parts form name slots)
    × (file_lines form name (settled_slots slots) unknown end ≡ file_lines form name slots unknown end)
    × (file_status (settled_slots slots) end ≡ file_status slots end)

-- ---- the row of a file

-- a file has at most one row
abbrev pub RowIsOne : Type 0
RowIsOne =
    (columns : List Tag) (bytes : List ℕ) (cells others : Held) (end other : RowEnd)
    → RowOf columns bytes cells end → RowOf columns bytes others other → (cells ≡ others) × (end ≡ other)

-- and at least one
abbrev pub RowIsSome : Type 0
RowIsSome =
    (columns : List Tag) (bytes : List ℕ) → (cells : Held) × (end : RowEnd) × RowOf columns bytes cells end

-- where more bytes cannot change how the reading of these ends, all files that begin with them have one row
abbrev pub RowStays : Type 0
RowStays =
    (columns : List Tag) (bytes rest : List ℕ) (cells : Held) (end : RowEnd) → (IsUndecided columns bytes → ⊥)
    → RowOf columns bytes cells end → RowOf columns (bytes ++ rest) cells end

-- these bytes of a file decide its row, and no fewer do
pub record Decides (columns : List Tag) (bytes : List ℕ) (cells : Held) (end : RowEnd) : Type 0 where
  pub front : List ℕ
  pub others : List ℕ
  pub whole : bytes ≡ front ++ others
  pub row : (rest : List ℕ) → RowOf columns (front ++ rest) cells end
  pub least : (less more : List ℕ) → front ≡ less ++ more → length less < length front → IsUndecided columns less

-- where more bytes cannot change how the reading ends, some beginning decides the row
abbrev pub RowIsDecided : Type 0
RowIsDecided =
    (columns : List Tag) (bytes : List ℕ) (cells : Held) (end : RowEnd) → (IsUndecided columns bytes → ⊥)
    → RowOf columns bytes cells end → Decides columns bytes cells end

-- so it is where a head above all columns ends it
abbrev pub DecidedIsSure : Type 0
DecidedIsSure =
    (columns : List Tag) (bytes : List ℕ) (cells : Held) → RowOf columns bytes cells Decided
    → IsUndecided columns bytes → ⊥

-- ---- the text of a row

-- the row of any file is valid UTF-8, where that is asked
abbrev pub RowIsUtf8 : Type 0
RowIsUtf8 =
    (columns : List Tag) (form : TextForm) (name bytes : List ℕ) (cells : Held) (end : RowEnd) (text : List ℕ)
    → is_valid_form form ≡ true → AreBytes name → AreBytes bytes → RowOf columns bytes cells end
    → SpellsParts (row_parts form name cells.slots) text → IsUtf8 text

-- the cell of an element that is a text, by its representation as it was read, is the value that its text in a full dump
-- means, without the pads at its end
abbrev pub CellIsShown : Type 0
CellIsShown =
    (s : Syntax) (tag : Tag) (vr : Vr) (value : List ℕ) (sets : Sets) → is_quoted_text vr ≡ true → AreBytes value
    → length value ≤ CELL_LIMIT
    → (read : List ℕ) × (value_of_text vr (display vr value) ≡ Some read)
    × (cell_parts AsItIs sets (leaf_cell s tag vr value) ≡ some_bytes (quoted (without_pads read)) ∷ [])

-- ---- a table over files in memory

-- words come to at most one outcome: the parts of the table, the lines and the status
abbrev pub TableIsOne : Type 0
TableIsOne = (words : List (List ℕ)) (s : MemSystem) (a b : TableOutcome) → TableComes words s a → TableComes words s b
    → a ≡ b

-- and to at least one
abbrev pub TableIsSome : Type 0
TableIsSome = (words : List (List ℕ)) (s : MemSystem) → (o : TableOutcome) × TableComes words s o
