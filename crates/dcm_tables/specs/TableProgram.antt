-- What the program does with the words of its command line, which may ask for a table.
use Rattle.std.specs.Prelude.{◌≡◌, ◌&&◌, ℕ, List, [], ◌∷◌, map, Bool, true, false, Some, None, is_none}
use Rattle.std.specs.Prelude.{Ok, Err, codes, bytes_eq}
use Rattle.std.specs.IoError.{error_kind}
use Rattle.std.specs.declared.io.Error.{Error}
use Rattle.dcm_devices.specs.declared.device.WriteFailed.{WriteFailed}
use Rattle.dcm_devices.specs.Writing.{Writer}
use Rattle.dcm_files.specs.declared.opened.Opened.{Opened}
use Rattle.dcm_files.specs.declared.opened.Unopened.{Unopened}
use Rattle.dcm_files.specs.declared.opened.Unopened.TheVariants.{Output}
use Rattle.dcm_files.specs.Devices.{MayDo, Closes, IsCause}
use Rattle.dcm_words.specs.Topics.{asked}
use Rattle.dcm_table.specs.declared.column.Column.{Column}
use Rattle.dcm_table.specs.declared.column.Header.TheVariants.{Keyword}
use Rattle.dcm_table.specs.declared.quoted.TextForm.{TextForm}
use Rattle.dcm_table.specs.declared.quoted.TextForm.TheVariants.{AsItIs, Decoded, ValidUtf8}
use Rattle.dcm_table.specs.Columns.{column_of_number}
use Rattle.dcm_table_words.specs.declared.plan.Texts.{Texts}
use Rattle.dcm_table_words.specs.declared.plan.Texts.TheVariants.{Escaped, AsTheyAre, Characters}
use Rattle.dcm_table_words.specs.declared.usage.TableUsage.{TableUsage}
use Rattle.dcm_table_words.specs.Table as table_words
use Rattle.dcm_table_words.specs.Usages.{usage_line}
use Rattle.dcm_cli.specs.Calls.{Reader}
use Rattle.dcm_cli.specs.Change.{Change}
use Rattle.dcm_cli.specs.ErrorLines.{Reports, output_line}
use Rattle.dcm_cli.specs.Program.{Follows, NoMemory, Obeys, unopened_line, unopened_status}
use Rattle.dcm_cli.specs.Status.{DEVICE, USAGE}
use Rattle.dcm_each.specs.Each.{Writing}
use Rattle.dcm_dumps.specs.Words.{asks_dumps}
use Rattle.dcm_dumps.specs.DumpsProgram.{ObeysDumps}
use Rattle.dcm_tree_words.specs.Trees.{asks_tree}
use Rattle.dcm_tables.specs.Table.{WritesTable}

-- ---- what a table has of its words

-- the column that a word gives
abbrev pub column_of : table_words.Column → Column
column_of c = elim c.number [
  | Some number ↦ column_of_number c.tag number
  | None ↦ record { tag = c.tag; header = Keyword }
]

abbrev pub form_of : Texts → TextForm
form_of Escaped = ValidUtf8
form_of AsTheyAre = AsItIs
form_of Characters = Decoded

-- ---- tables

-- a table that words mean was written
abbrev pub WritesMeant : {S I O W : Type 0} → MayDo S I O → Reader I → Writer W → table_words.Table → Writing S W
WritesMeant may r w t errors from to before result after =
    WritesTable may r w (map column_of t.columns) (form_of t.texts) t.has_header t.names errors from to before result
    after

-- an output was flushed after a table that reached this status, and the status stays; or that failed, and it is reported
pub data FlushesTable {O : Type 0} (w : Writer O) (errors : Change) (from to : O) (reached status : ℕ) : Type 0 where
  flushed : w.contents to ≡ w.contents from → w.has_failed to ≡ w.has_failed from → w.is_flushed to ≡ true
      → Reports errors [] → status ≡ reached → FlushesTable w errors from to reached status
  not_flushed : w.contents to ≡ w.contents from → w.has_failed to ≡ true → w.room from ≡ None
      → Reports errors output_line → status ≡ DEVICE → FlushesTable w errors from to reached status

-- the table was written to an output, which was then flushed; or the output failed as it was written, and that is
-- reported
pub data PutsTable {S O : Type 0} (w : Writer O) (Writes : Writing S O) (errors : Change) (from to : O) (before : S)
    (status : ℕ) (after : S) : Type 0 where
  put : (written : O) (reached : ℕ) (of_rows of_flush : Change) → Writes of_rows from written before (Ok reached) after
      → FlushesTable w of_flush written to reached status → Follows errors of_rows of_flush
      → PutsTable w Writes errors from to before status after
  not_put : (failure : WriteFailed) (of_rows of_line : Change) → Writes of_rows from to before (Err failure) after
      → Reports of_line output_line → status ≡ DEVICE → Follows errors of_rows of_line
      → PutsTable w Writes errors from to before status after

-- there was no memory for the cells of a table, or standard output cannot be opened: that is reported, and nothing
-- else was done with the system; or the table was written to standard output, which was then closed
pub data MakesTable {S I O : Type 0} (may : MayDo S I O) (w : Writer O) (Writes : Writing S O) (errors : Change)
    (before : S) (status : ℕ) (after : S) : Type 0 where
  no_cells : NoMemory errors status → after ≡ before → MakesTable may w Writes errors before status after
  no_stdout : (cause : Error) (u : Unopened) → may.stdout before (Err cause) after
      → IsCause (error_kind cause) Output u → Reports errors (unopened_line u) → status ≡ unopened_status u
      → MakesTable may w Writes errors before status after
  made : (o : Opened O) (output : O) (has_output written : S) → may.stdout before (Ok o) has_output
      → PutsTable w Writes errors o.device output has_output status written → Closes may written output after
      → MakesTable may w Writes errors before status after

-- ---- words

abbrev pub is_of_tables : List (List ℕ) → Bool
is_of_tables [] = false
is_of_tables (tool ∷ others) = bytes_eq tool (codes "dcm2csv")

-- whether words ask for a table: they are those of dcm2csv, and ask for no text about it
abbrev pub asks_table : List (List ℕ) → Bool
asks_table words = is_of_tables words && is_none (asked words)

-- words that ask for a table are refused, and that is reported, with nothing done with the system; or their table was
-- made
pub data ObeysTable {S I O : Type 0} (may : MayDo S I O) (r : Reader I) (w : Writer O) (words : List (List ℕ))
    (errors : Change) (before : S) (status : ℕ) (after : S) : Type 0 where
  refused : (u : TableUsage) → table_words.meant_table words ≡ Err u → Reports errors (usage_line u) → status ≡ USAGE
      → after ≡ before → ObeysTable may r w words errors before status after
  tabled : (t : table_words.Table) → table_words.meant_table words ≡ Ok t
      → MakesTable may w (WritesMeant may r w t) errors before status after
      → ObeysTable may r w words errors before status after

-- that a run over a tree was done as words say: the words, the system before, the exit status, the system after
abbrev pub TreeRuns : Type 0 → Type 1
TreeRuns S = (words : List (List ℕ)) → (before : S) → (status : ℕ) → (after : S) → Type 0

-- words ask for a table, or for dumps of several files, or for a run over a tree, or they are obeyed as those of the
-- other tools
pub data ObeysAny {S I O : Type 0} (may : MayDo S I O) (r : Reader I) (w : Writer O) (Trees : TreeRuns S)
    (words : List (List ℕ)) (errors : Change) (before : S) (status : ℕ) (after : S) : Type 0 where
  of_table : asks_table words ≡ true → ObeysTable may r w words errors before status after
      → ObeysAny may r w Trees words errors before status after
  of_dumps : asks_table words ≡ false → asks_dumps words ≡ true → ObeysDumps may r w words errors before status after
      → ObeysAny may r w Trees words errors before status after
  of_tree : asks_table words ≡ false → asks_dumps words ≡ false → asks_tree words ≡ true
      → Trees words before status after → ObeysAny may r w Trees words errors before status after
  of_others : asks_table words ≡ false → asks_dumps words ≡ false → asks_tree words ≡ false
      → Obeys may r w words errors before status after → ObeysAny may r w Trees words errors before status after

-- the words that the system gave were obeyed; or there was no memory for them
pub data Starts {S I O : Type 0} (may : MayDo S I O) (r : Reader I) (w : Writer O) (Trees : TreeRuns S)
    (errors : Change) (before : S) (status : ℕ) (after : S) : Type 0 where
  no_words : may.words before None after → NoMemory errors status → Starts may r w Trees errors before status after
  no_views : (words : List (List ℕ)) → may.words before (Some words) after → NoMemory errors status
      → Starts may r w Trees errors before status after
  obeyed : (words : List (List ℕ)) (has_words : S) → may.words before (Some words) has_words
      → ObeysAny may r w Trees words errors has_words status after → Starts may r w Trees errors before status after
