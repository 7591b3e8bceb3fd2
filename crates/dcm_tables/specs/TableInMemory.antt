-- What words that ask for a table come to over files in memory: the header, and then the rows of all files in the order
-- of their names, each as if its file were alone.
use Rattle.std.specs.Prelude.{◌≡◌, ◌≤◌, ◌⊎◌, ℕ, ◌+◌, max, List, [], ◌∷◌, ◌++◌, length, map, true, false}
use Rattle.std.specs.Prelude.{Option, Some, None, Result, Ok, Err}
use Rattle.dcm_base.specs.declared.tag.Tag.{Tag}
use Rattle.dcm_devices.specs.Memory.{written, room_of}
use Rattle.dcm_devices.specs.declared.memory.MemOut.{MemOut}
use Rattle.dcm_files.specs.declared.memory.MemSystem.{MemSystem}
use Rattle.dcm_names.specs.Names.{names_of}
use Rattle.dcm_names.specs.NamedLines.{unopened_line}
use Rattle.dcm_table.specs.declared.column.Column.{Column}
use Rattle.dcm_table.specs.declared.ending.RowEnd.{RowEnd}
use Rattle.dcm_table.specs.declared.quoted.TextForm.{TextForm}
use Rattle.dcm_table.specs.Parts.{Part, some_bytes, a_float, SpellsParts}
use Rattle.dcm_table.specs.Row.{row_parts}
use Rattle.dcm_table.specs.Shown.{Held}
use Rattle.dcm_table_words.specs.declared.usage.TableUsage.{TableUsage}
use Rattle.dcm_table_words.specs.Table as table_words
use Rattle.dcm_table_words.specs.Usages.{usage_line}
use Rattle.dcm_words.specs.declared.usage.Usage.TheVariants.{Memory}
use Rattle.dcm_cli.specs.ErrorLines as error_lines
use Rattle.dcm_cli.specs.InMemory.{Took}
use Rattle.dcm_cli.specs.Status.{DEVICE, DONE, USAGE}
use Rattle.dcm_tables.specs.RowOf.{RowOf}
use Rattle.dcm_tables.specs.Rows.{file_lines, file_status}
use Rattle.dcm_each.specs.Each.{listed_path}
pub use Rattle.dcm_each.specs.InMemory.{file_of, IsReadWhole, AreReadWhole}
use Rattle.dcm_tables.specs.Table.{header_bytes}
use Rattle.dcm_tables.specs.TableProgram.{column_of, form_of}

-- ---- rows

-- what names come to: the parts of their rows, the lines on standard error, and the greatest status
pub record Rows : Type 0 where
  pub parts : List Part
  pub lines : List ℕ
  pub status : ℕ

abbrev pub no_rows : Rows
no_rows = record { parts = []; lines = []; status = DONE }

-- these rows, and then those
abbrev pub and_rows : Rows → Rows → Rows
and_rows a b = record { parts = a.parts ++ b.parts; lines = a.lines ++ b.lines; status = max a.status b.status }

-- what one after another of a list comes to
abbrev pub AllCome : {X : Type 0} → (X → Rows → Type 0) → List X → Rows → Type 0
AllCome Comes [] rows = rows ≡ no_rows
AllCome Comes (x ∷ xs) rows = (first : Rows) × (later : Rows) × Comes x first × AllCome Comes xs later
    × (rows ≡ and_rows first later)

-- ---- one file

-- a file or a list cannot be opened
abbrev pub unopened : (name : List ℕ) → Rows
unopened name = record { parts = []; lines = unopened_line name; status = DEVICE }

-- the row of a file with these cells and this end
abbrev pub row_with : TextForm → (name : List ℕ) → Held → RowEnd → Rows
row_with form name cells end = record {
  parts = row_parts form name cells.slots;
  lines = file_lines form name cells.slots cells.unknown end;
  status = file_status cells.slots end;
}

-- a file comes to the row that its bytes give; one that cannot be opened has none
abbrev pub FileComes : List Tag → TextForm → (name : List ℕ) → Option (List ℕ) → Rows → Type 0
FileComes columns form name None rows = rows ≡ unopened name
FileComes columns form name (Some bytes) rows =
    (cells : Held) × (end : RowEnd) × RowOf columns bytes cells end × (rows ≡ row_with form name cells end)

-- ---- names

-- a name in a list, where `-` is the file of that name
abbrev pub ListedComes : MemSystem → List Tag → TextForm → (name : List ℕ) → Rows → Type 0
ListedComes s columns form name rows = FileComes columns form name (file_of s name (listed_path name)) rows

-- a list comes to the rows of its names
abbrev pub ListComes : MemSystem → List Tag → TextForm → (path : List ℕ) → Option (List ℕ) → Rows → Type 0
ListComes s columns form path None rows = rows ≡ unopened path
ListComes s columns form path (Some bytes) rows = AllCome (ListedComes s columns form) (names_of bytes true) rows

-- a name among the words, where `-` is standard input
abbrev pub NameComes : MemSystem → List Tag → TextForm → table_words.Name → Rows → Type 0
NameComes s columns form (table_words.file path) rows = FileComes columns form path (file_of s path path) rows
NameComes s columns form (table_words.list path) rows = ListComes s columns form path (file_of s path path) rows

-- ---- a table

-- what words come to: the parts of a table, where one is written; the lines on standard error; and the status
pub record TableOutcome : Type 0 where
  pub parts : Option (List Part)
  pub lines : List ℕ
  pub status : ℕ

-- nothing is opened
abbrev pub refused : TableUsage → TableOutcome
refused u = record { parts = None; lines = usage_line u; status = USAGE }

-- the header, where there is one, and then the rows
abbrev pub tabled : table_words.Table → Rows → TableOutcome
tabled t rows = record {
  parts = Some (some_bytes (header_bytes t.has_header (map column_of t.columns)) ∷ rows.parts);
  lines = rows.lines;
  status = rows.status;
}

abbrev pub tags_of : table_words.Table → List Tag
tags_of t = map (λ (c : Column). c.tag) (map column_of t.columns)

abbrev pub RowsCome : MemSystem → table_words.Table → Rows → Type 0
RowsCome s t rows = AllCome (NameComes s (tags_of t) (form_of t.texts)) t.names rows

-- by what the words mean
abbrev pub TableComesBy : MemSystem → Result table_words.Table TableUsage → TableOutcome → Type 0
TableComesBy s (Err u) o = o ≡ refused u
TableComesBy s (Ok t) o = (rows : Rows) × RowsCome s t rows × (o ≡ tabled t rows)

-- what words that ask for a table come to over files in memory
abbrev pub TableComes : (words : List (List ℕ)) → MemSystem → TableOutcome → Type 0
TableComes words s o = TableComesBy s (table_words.meant_table words) o

-- ---- what obeying them leaves

-- the most bytes of a part: the text of a float has 25 at most
abbrev pub most_of_part : Part → ℕ
most_of_part (some_bytes bytes) = length bytes
most_of_part (a_float width bits) = 25

abbrev pub most_of : List Part → ℕ
most_of [] = 0
most_of (p ∷ parts) = most_of_part p + most_of parts

-- there is room for each text of these parts
abbrev pub HasRoomFor : Option (List Part) → (room : Option MemOut) → Type 0
HasRoomFor None room = Unit {0}
HasRoomFor (Some parts) None = ⊥
HasRoomFor (Some parts) (Some room) = (room.failed ≡ false) × (most_of parts ≤ room_of room)

-- a text of the parts was written, all of it, and then the output was closed; or none was opened
abbrev pub IsTabled : Option (List Part) → MemSystem → (output : Option MemOut) → Type 0
IsTabled None s output = output ≡ s.written
IsTabled (Some parts) s output = (text : List ℕ) × SpellsParts parts text × Took text s.room output

-- what was written, the status, and the lines where there is room for them
pub record LeavesTable (o : TableOutcome) (s : MemSystem) (errors_before : MemOut) (output : Option MemOut)
    (errors_after : MemOut) (status : ℕ) : Type 0 where
  pub output_is : IsTabled o.parts s output
  pub lines_are : length o.lines ≤ room_of errors_before → written errors_after ≡ written errors_before ++ o.lines
  pub status_is : status ≡ o.status

-- there is no memory for the cells: nothing is opened
abbrev pub no_memory : TableOutcome
no_memory = record {
  parts = None;
  lines = error_lines.usage_line Memory;
  status = error_lines.usage_status Memory;
}

-- words mean a table
abbrev pub MeansTable : (words : List (List ℕ)) → Type 0
MeansTable words = (t : table_words.Table) × (table_words.meant_table words ≡ Ok t)

-- so has each list of the table that words mean
abbrev pub ListsAreReadWhole : (words : List (List ℕ)) → MemSystem → Type 0
ListsAreReadWhole words s =
    (t : table_words.Table) → table_words.meant_table words ≡ Ok t → AreReadWhole s t.names

-- what the words come to, where there is room for it; or memory was refused to the cells of the table that they mean
abbrev pub TablesInMemory : (words : List (List ℕ)) → MemSystem → (errors_before : MemOut) → (output : Option MemOut)
    → (errors_after : MemOut) → (status : ℕ) → Type 0
TablesInMemory words s errors_before output errors_after status =
    (o : TableOutcome) → TableComes words s o → HasRoomFor o.parts s.room
    → LeavesTable o s errors_before output errors_after status
    ⊎ (MeansTable words × LeavesTable no_memory s errors_before output errors_after status)
