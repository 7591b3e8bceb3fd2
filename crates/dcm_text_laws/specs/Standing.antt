-- What stands written while dumps of several files, or a table, are written over files in memory.
use Rattle.std.specs.Prelude.{◌≡◌, ◌⊎◌, ℕ, List, [], ◌∷◌, ◌++◌, map, true, Option, Some, None}
use Rattle.dcm_base.specs.declared.tag.Tag.{Tag}
use Rattle.dcm_files.specs.declared.memory.MemSystem.{MemSystem}
use Rattle.dcm_names.specs.Names.{names_of}
use Rattle.dcm_table.specs.declared.quoted.TextForm.{TextForm}
use Rattle.dcm_table.specs.Parts.{Part, some_bytes}
use Rattle.dcm_table_words.specs.Table.{Name, Table, file, list}
use Rattle.dcm_cli.specs.Answer.{Sure}
use Rattle.dcm_each.specs.Each.{listed_path}
use Rattle.dcm_each.specs.InMemory.{file_of}
use Rattle.dcm_dumps.specs.Dumps.{next_number}
use Rattle.dcm_dumps.specs.DumpsInMemory as dumps
use Rattle.dcm_dumps.specs.DumpsInMemory.{Place, Showing, Texts, at_first, headed, passed, showing}
use Rattle.dcm_dumps.specs.Heading.{heading}
use Rattle.dcm_dumps.specs.Words.{Dumps}
use Rattle.dcm_tables.specs.Table.{header_bytes}
use Rattle.dcm_tables.specs.TableInMemory as tables
use Rattle.dcm_tables.specs.TableInMemory.{Rows, tags_of}
use Rattle.dcm_tables.specs.TableProgram.{column_of, form_of}

-- ---- dumps

-- what stands of one after another of a list: of some of the first ones, and nothing of the others
abbrev pub AllStand : {X : Type 0} → (Place → X → List ℕ → Place → Type 0) → Place → List X → List ℕ → Place → Type 0
AllStand Stands from [] text to = (text ≡ []) × (to ≡ from)
AllStand Stands from (x ∷ xs) text to = ((text ≡ []) × (to ≡ from))
    ⊎ ((mid : Place) × (first : List ℕ) × (later : List ℕ) × Stands from x first mid
    × AllStand Stands mid xs later to × (text ≡ first ++ later))

-- of a file: all that it comes to; or its heading, and what is written of a beginning of it while more bytes can still
-- change how its reading ends, be it that reading failed there; or the heading alone; or nothing, where the file could
-- not be opened
pub data FileStands (h : Showing) (from : Place) (name : List ℕ) (held : Option (List ℕ)) (text : List ℕ) (to : Place)
    : Type 0 where
  whole : (t : Texts) → dumps.FileComes h from name held t to → text ≡ t.text → FileStands h from name held text to
  so_far : (bytes front rest out : List ℕ) → held ≡ Some bytes → bytes ≡ front ++ rest
      → (out ≡ []) ⊎ Sure h.job front out
      → text ≡ heading from.is_first (next_number from.number) h.total name ++ out → to ≡ headed from
      → FileStands h from name held text to
  unopened : text ≡ [] → to ≡ passed from → FileStands h from name held text to

-- of a name in a list, of a list, and of a name among the words
abbrev pub ListedStands : MemSystem → Showing → Place → (name : List ℕ) → List ℕ → Place → Type 0
ListedStands s h from name text to = FileStands h from name (file_of s name (listed_path name)) text to

abbrev pub ListStands : MemSystem → Showing → Place → Option (List ℕ) → List ℕ → Place → Type 0
ListStands s h from None text to = (text ≡ []) × (to ≡ from)
ListStands s h from (Some bytes) text to = AllStand (ListedStands s h) from (names_of bytes true) text to

abbrev pub NameStands : MemSystem → Showing → Place → Name → List ℕ → Place → Type 0
NameStands s h from (file path) text to = FileStands h from path (file_of s path path) text to
NameStands s h from (list path) text to = ListStands s h from (file_of s path path) text to

-- of the dumps that are asked for: after each file, at each beginning of one, and in the end
abbrev pub DumpsStand : MemSystem → Dumps → (text : List ℕ) → Type 0
DumpsStand s d text = (last : Place) × AllStand (NameStands s (showing d)) at_first d.names text last

-- ---- tables

-- of one after another: the rows of some of them
abbrev pub AllRowsStand : {X : Type 0} → (X → List Part → Type 0) → List X → List Part → Type 0
AllRowsStand Stands [] parts = parts ≡ []
AllRowsStand Stands (x ∷ xs) parts = (first : List Part) × (later : List Part) × Stands x first
    × AllRowsStand Stands xs later × (parts ≡ first ++ later)

-- of a file: its row; or nothing, as before that, and where it could not be read
abbrev pub RowStands : List Tag → TextForm → (name : List ℕ) → Option (List ℕ) → List Part → Type 0
RowStands columns form name held parts =
    (parts ≡ []) ⊎ ((rows : Rows) × tables.FileComes columns form name held rows × (parts ≡ rows.parts))

-- of a name in a list, of a list, and of a name among the words
abbrev pub ListedRowStands : MemSystem → List Tag → TextForm → (name : List ℕ) → List Part → Type 0
ListedRowStands s columns form name parts = RowStands columns form name (file_of s name (listed_path name)) parts

abbrev pub ListRowsStand : MemSystem → List Tag → TextForm → Option (List ℕ) → List Part → Type 0
ListRowsStand s columns form None parts = parts ≡ []
ListRowsStand s columns form (Some bytes) parts =
    AllRowsStand (ListedRowStands s columns form) (names_of bytes true) parts

abbrev pub NameRowsStand : MemSystem → List Tag → TextForm → Name → List Part → Type 0
NameRowsStand s columns form (file path) parts = RowStands columns form path (file_of s path path) parts
NameRowsStand s columns form (list path) parts = ListRowsStand s columns form (file_of s path path) parts

-- the header, where there is one, and then rows
abbrev pub parts_with : Table → List Part → List Part
parts_with t rows = some_bytes (header_bytes t.has_header (map column_of t.columns)) ∷ rows

-- of the table that is asked for: its header, and the rows so far
abbrev pub TableStands : MemSystem → Table → List Part → Type 0
TableStands s t parts =
    (rows : List Part) × AllRowsStand (NameRowsStand s (tags_of t) (form_of t.texts)) t.names rows
    × (parts ≡ parts_with t rows)
