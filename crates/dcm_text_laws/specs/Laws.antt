-- The statements of the laws.
use Rattle.std.specs.Prelude.{◌≡◌, ℕ, List, Option, Some, Ok, true, IsUtf8}
use Rattle.dcm_base.specs.declared.dictionary.Dictionary.{Dictionary}
use Rattle.dcm_base.specs.declared.mode.Mode.{Mode}
use Rattle.dcm_base.specs.declared.syntax.Syntax.{Syntax}
use Rattle.dcm_base.specs.Tables.Number.{AreBytes}
use Rattle.dcm_files.specs.declared.memory.MemSystem.{MemSystem}
use Rattle.dcm_table.specs.Laws.{is_valid_form}
use Rattle.dcm_table.specs.Parts.{Part, SpellsParts}
use Rattle.dcm_table_words.specs.Table.{Table, meant_table}
use Rattle.dcm_words.specs.Words.{dump_decoded}
use Rattle.dcm_cli.specs.Answer.{Answer, Answers, Sure}
use Rattle.dcm_cli.specs.InMemory.{bytes_at}
use Rattle.dcm_dumps.specs.DumpsInMemory.{DumpsOutcome, DumpsCome, Texts, TextsCome}
use Rattle.dcm_dumps.specs.Words.{Dumps, meant_dumps}
use Rattle.dcm_tables.specs.TableInMemory.{Rows, RowsCome, TableOutcome, TableComes}
use Rattle.dcm_tables.specs.TableProgram.{form_of}
use Rattle.dcm_text_laws.specs.Standing.{DumpsStand, TableStands, parts_with}

-- ---- one dump

-- the dump of a file, or of a data set alone, is UTF-8, however its reading ends
abbrev pub AnswerIsUtf8 : Type 0
AnswerIsUtf8 =
    (d : Dictionary) (mode : Mode) (bare : Option Syntax) (bytes : List ℕ) (a : Answer) → AreBytes bytes
    → Answers (dump_decoded d mode bare) bytes a → IsUtf8 a.output

-- so is what is written of a beginning, where more bytes can still change how its reading ends
abbrev pub SureIsUtf8 : Type 0
SureIsUtf8 =
    (d : Dictionary) (mode : Mode) (bare : Option Syntax) (begun out : List ℕ) → AreBytes begun
    → Sure (dump_decoded d mode bare) begun out → IsUtf8 out

-- ---- all that a command line writes

-- what can be read over files in memory are bytes
abbrev pub HoldsBytes : MemSystem → Type 0
HoldsBytes s = (path bytes : List ℕ) → bytes_at s path ≡ Some bytes → AreBytes bytes

-- the dumps of several files, by characters, with their headings
abbrev pub DumpsAreUtf8 : Type 0
DumpsAreUtf8 =
    (words : List (List ℕ)) (s : MemSystem) (asked : Dumps) (d : Dictionary) (mode : Mode) (bare : Option Syntax)
    (o : DumpsOutcome) (text : List ℕ)
    → HoldsBytes s → meant_dumps words ≡ Ok asked → asked.job ≡ dump_decoded d mode bare → DumpsCome words s o
    → o.text ≡ Some text → IsUtf8 text

-- so is what stands written of them at each time where no writer failed: after each whole file, and at each beginning of
-- one, whatever could not be read
abbrev pub DumpsSoFarAreUtf8 : Type 0
DumpsSoFarAreUtf8 =
    (words : List (List ℕ)) (s : MemSystem) (asked : Dumps) (d : Dictionary) (mode : Mode) (bare : Option Syntax)
    (text : List ℕ)
    → HoldsBytes s → meant_dumps words ≡ Ok asked → asked.job ≡ dump_decoded d mode bare → DumpsStand s asked text
    → IsUtf8 text

-- what all files come to is what stands in the end
abbrev pub DumpsEndStands : Type 0
DumpsEndStands = (s : MemSystem) (asked : Dumps) (t : Texts) → TextsCome s asked t → DumpsStand s asked t.text

-- a table: its header, and the rows of all files, unless texts are left as they are
abbrev pub TableIsUtf8 : Type 0
TableIsUtf8 =
    (words : List (List ℕ)) (s : MemSystem) (t : Table) (o : TableOutcome) (parts : List Part) (text : List ℕ)
    → HoldsBytes s → meant_table words ≡ Ok t → is_valid_form (form_of t.texts) ≡ true → TableComes words s o
    → o.parts ≡ Some parts → SpellsParts parts text → IsUtf8 text

-- so is what stands written of it after the header, and after each row
abbrev pub TableSoFarIsUtf8 : Type 0
TableSoFarIsUtf8 =
    (words : List (List ℕ)) (s : MemSystem) (t : Table) (parts : List Part) (text : List ℕ)
    → HoldsBytes s → meant_table words ≡ Ok t → is_valid_form (form_of t.texts) ≡ true → TableStands s t parts
    → SpellsParts parts text → IsUtf8 text

-- and all rows are what stands in the end
abbrev pub TableEndStands : Type 0
TableEndStands = (s : MemSystem) (t : Table) (rows : Rows) → RowsCome s t rows → TableStands s t (parts_with t rows.parts)
