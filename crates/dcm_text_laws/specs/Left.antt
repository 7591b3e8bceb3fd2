-- What dumps and a table leave of their output, over any system.
use Rattle.std.specs.Prelude.{◌≡◌, ℕ, List, Option, Some, Ok, map, true, IsUtf8}
use Rattle.std.specs.Io.KnownBytes.{append_known}
use Rattle.dcm_base.specs.declared.dictionary.Dictionary.{Dictionary}
use Rattle.dcm_base.specs.declared.mode.Mode.{Mode}
use Rattle.dcm_base.specs.declared.syntax.Syntax.{Syntax}
use Rattle.dcm_base.specs.declared.tag.Tag.{Tag}
use Rattle.dcm_base.specs.Tables.Number.{AreBytes}
use Rattle.dcm_devices.specs.Writing.{Writer}
use Rattle.dcm_files.specs.declared.opened.FileKind.{FileKind}
use Rattle.dcm_files.specs.declared.opened.Opened.{Opened}
use Rattle.dcm_files.specs.Devices.{MayDo}
use Rattle.dcm_names.specs.Names.{can_be_opened}
use Rattle.dcm_table.specs.declared.quoted.TextForm.{TextForm}
use Rattle.dcm_table.specs.Laws.{is_valid_form}
use Rattle.dcm_table_words.specs.Table.{Table, meant_table}
use Rattle.dcm_words.specs.Words.{dump_decoded}
use Rattle.dcm_cli.specs.Calls.{Reader}
use Rattle.dcm_cli.specs.Change.{Change}
use Rattle.dcm_dumps.specs.Dumps.{DoesDump, Manner, Shown}
use Rattle.dcm_dumps.specs.DumpsProgram.{ShowsMeant}
use Rattle.dcm_dumps.specs.Words.{Dumps}
use Rattle.dcm_tables.specs.Deciding.{DoesRow}
use Rattle.dcm_tables.specs.Table.{header_bytes}
use Rattle.dcm_tables.specs.TableProgram.{WritesMeant, column_of, form_of}

-- what a reader gives are bytes
abbrev pub GivesBytes : {R : Type 0} → Reader R → Type 0
GivesBytes {R} r = (before after : R) (bytes : List ℕ) → r.gets before (Some bytes) after → AreBytes bytes

-- what a writer has grew by valid UTF-8, or stayed
abbrev pub GrewByUtf8 : {W : Type 0} → Writer W → (before after : W) → Type 0
GrewByUtf8 w before after =
    (text : List ℕ) × IsUtf8 text × (w.contents after ≡ append_known (w.contents before) text)

-- ---- dumps

-- the dump of a file by characters, with its heading, whatever could not be read of it
abbrev pub DumpGrowsByUtf8 : {I W : Type 0} → Reader I → Writer W → Type 0
DumpGrowsByUtf8 {I} {W} r w =
    (m : Manner) (d : Dictionary) (mode : Mode) (bare : Option Syntax) (name : List ℕ) (errors : Change)
    (from to : Shown W) (before : Opened I) (status : ℕ) (after : I)
    → GivesBytes r → m.job ≡ dump_decoded d mode bare → IsUtf8 name → can_be_opened name ≡ true
    → DoesDump r w m name errors from to before (Ok status) after → GrewByUtf8 w from.out to.out

-- so the dumps of all files
abbrev pub DumpsGrowByUtf8 : {S I O W : Type 0} → MayDo S I O → Reader I → Writer W → Type 0
DumpsGrowByUtf8 {S} {I} {O} {W} may r w =
    (asked : Dumps) (d : Dictionary) (mode : Mode) (bare : Option Syntax) (output : FileKind) (errors : Change)
    (from to : W) (before : S) (status : ℕ) (after : S)
    → GivesBytes r → asked.job ≡ dump_decoded d mode bare
    → ShowsMeant may r w asked output errors from to before (Ok status) after → GrewByUtf8 w from to

-- ---- tables

-- the row of a file, or nothing where it could not be read
abbrev pub RowGrowsByUtf8 : {I W : Type 0} → Reader I → Writer W → Type 0
RowGrowsByUtf8 {I} {W} r w =
    (columns : List Tag) (form : TextForm) (name : List ℕ) (errors : Change) (from to : W) (before : I) (status : ℕ)
    (after : I)
    → GivesBytes r → is_valid_form form ≡ true → AreBytes name
    → DoesRow r w columns form name errors from to before (Ok status) after → GrewByUtf8 w from to

-- so the table that words mean: its header, and the rows of all files
abbrev pub TableGrowsByUtf8 : {S I O W : Type 0} → MayDo S I O → Reader I → Writer W → Type 0
TableGrowsByUtf8 {S} {I} {O} {W} may r w =
    (words : List (List ℕ)) (t : Table) (errors : Change) (from to : W) (before : S) (status : ℕ) (after : S)
    → GivesBytes r → meant_table words ≡ Ok t → is_valid_form (form_of t.texts) ≡ true
    → WritesMeant may r w t errors from to before (Ok status) after → GrewByUtf8 w from to

-- its header alone
abbrev pub HeaderIsUtf8 : Type 0
HeaderIsUtf8 = (words : List (List ℕ)) (t : Table) → meant_table words ≡ Ok t
    → IsUtf8 (header_bytes t.has_header (map column_of t.columns))
