-- What obeying words that ask for a table leaves over files in memory.
use Rattle.std.proofs.Common.{◌≡◌, ◌∙◌, ap, sym, subst, refl, ℕ, ◌≤◌, List, [], ◌∷◌, ◌++◌, append-nil, length-append, arith, map, Option, Some, None, Result, Ok, Err, ◌⊎◌, inl, inr}
use Rattle.std.specs.Io.KnownBytes.{append_known}
use Rattle.std.specs.declared.io.Error.{Error}
use Rattle.dcm_lemmas.proofs.Options.{known_twice}
use Rattle.dcm_base.specs.declared.tag.Tag.{Tag}
use Rattle.dcm_devices.specs.declared.device.WriteFailed.{WriteFailed}
use Rattle.dcm_devices.specs.declared.memory.MemOut.{MemOut}
use Rattle.dcm_devices.specs.declared.memory.Measured.{Measured}
use Rattle.dcm_devices.specs.Memory.{written, size, room_of}
use Rattle.dcm_files.specs.declared.memory.MemSystem.{MemSystem}
use Rattle.dcm_files.specs.declared.opened.FileKind.{FileKind}
use Rattle.dcm_files.specs.declared.opened.FileKind.TheVariants.{Other}
use Rattle.dcm_files.specs.declared.opened.Opened.{Opened}
use Rattle.dcm_files.specs.Memory.{GivesRoom, may_do}
use Rattle.dcm_table.specs.declared.quoted.TextForm.{TextForm}
use Rattle.dcm_table.specs.Parts.{Part, some_bytes}
use Rattle.dcm_table_words.specs.declared.usage.TableUsage.{TableUsage}
use Rattle.dcm_table_words.specs.Table as table_words
use Rattle.dcm_cli.specs.Change.{Change}
use Rattle.dcm_cli.specs.InMemory.{Took}
use Rattle.dcm_cli.proofs.Runs.InMemory.{memory_reader, memory_writer, memory_change}
use Rattle.dcm_each.specs.Each.{DoesName, DoesAll}
use Rattle.dcm_tables.specs.Table.{rows_into, headed, not_headed, header_bytes}
use Rattle.dcm_tables.specs.TableProgram as program
use Rattle.dcm_tables.specs.TableProgram.{column_of, form_of, WritesMeant, PutsTable, MakesTable, ObeysTable}
use Rattle.dcm_tables.specs.TableInMemory as spec
use Rattle.dcm_tables.specs.TableInMemory.{Rows, AllCome, NameComes, RowsCome, TableOutcome, TableComes, TableComesBy, tags_of, most_of, HasRoomFor, IsTabled, LeavesTable, MeansTable, IsReadWhole, AreReadWhole, ListsAreReadWhole, no_memory}
use Rattle.dcm_each.proofs.InMemory.{Told, told_of, told_then, front_less, held, grew, no_less, told_left}
use Rattle.dcm_tables.proofs.TableMemory.{All, Left, at_left, all_left}
use Rattle.dcm_tables.proofs.ListLeft.{list_left}

-- ---- the header

abbrev with_header : List ℕ → Rows → Rows
with_header header rows = record { parts = some_bytes header ∷ rows.parts; lines = rows.lines; status = rows.status }

head_then : (header : List ℕ) (rows : Rows) (errors : Change) (from mid to : Measured) (r : Result ℕ WriteFailed) → held mid ≡ append_known (held from) header → mid.out.failed ≡ from.out.failed → Left rows errors mid to r
    → Left (with_header header rows) errors from to r
head_then header rows errors from mid to (Ok status) went fine x = record {
  text = header ++ x.text;
  spelled = (header, x.text, refl, refl, x.spelled);
  grown = x.grown ∙ ap (λ (h : Option (List ℕ)). append_known h x.text) went ∙ known_twice (held from) header x.text;
  fine = x.fine ∙ fine;
  told = x.told;
  status_is = x.status_is;
}
head_then header rows errors from mid to (Err failure) went fine x = record {
  less = header ++ x.less;
  grown = x.grown ∙ ap (λ (h : Option (List ℕ)). append_known h x.less) went ∙ known_twice (held from) header x.less;
  fewer = let l = length-append header x.less in let f = x.fewer in omega (arith, l, f);
  failed = x.failed;
}

-- ---- rooms

room_given : (room : Option MemOut) (kind : FileKind) (o : Opened Measured) → GivesRoom room kind (Ok o) → room ≡ Some o.device.out
room_given (Some m) kind o gave = ap Some (sym gave.0)
room_given None kind o gave = absurd gave

room_refused : (parts : List Part) (room : Option MemOut) (kind : FileKind) (cause : Error) → HasRoomFor (Some parts) room → GivesRoom room kind (Err cause) → ⊥
room_refused parts (Some m) kind cause has gave = gave
room_refused parts None kind cause has gave = has

room_fits : (parts : List Part) (room : Option MemOut) (m : MemOut) → room ≡ Some m → HasRoomFor (Some parts) room → most_of parts ≤ room_of m
room_fits parts room m is has = (subst (HasRoomFor (Some parts)) is has).1

-- ---- names

module _ (s : MemSystem) (columns : List Tag) (form : TextForm) where
  -- what the name of a file comes to, or of a list that is read whole
  abbrev WholeNameComes : table_words.Name → Rows → Type 0
  WholeNameComes name rows = NameComes s columns form name rows × IsReadWhole s name

  of_whole : (names : List table_words.Name) (rows : Rows) → AreReadWhole s names → AllCome (NameComes s columns form) names rows → AllCome WholeNameComes names rows
  of_whole [] rows whole come = come
  of_whole (name ∷ names) rows whole come = (come.0, come.1, (come.2, whole.0), of_whole names come.1 whole.1 come.3, come.4)

  name_left : (name : table_words.Name) (rows : Rows) (errors : Change) (from to : Measured) (result : Result ℕ WriteFailed) (after : MemSystem)
      → DoesName may_do memory_reader (rows_into memory_reader memory_writer columns form) name errors from to s result after → WholeNameComes name rows → Left rows errors from to result × (after ≡ s)
  name_left (table_words.file path) rows errors from to result after does comes = at_left s columns form path path rows errors from to result after does comes.0
  name_left (table_words.list path) rows errors from to result after does comes = list_left s columns form path rows errors from to result after does comes.0 comes.1

  module _ (names : List table_words.Name) (whole : AreReadWhole s names) (rows : Rows) (come : AllCome (NameComes s columns form) names rows) where
    names_left : (errors : Change) (from to : Measured) (result : Result ℕ WriteFailed) (after : MemSystem) → DoesAll (DoesName may_do memory_reader (rows_into memory_reader memory_writer columns form)) names errors from to s result after
        → Left rows errors from to result × (after ≡ s)
    names_left errors from to result after does = all_left s columns form WholeNameComes name_left names errors from to result after rows does (of_whole names rows whole come)

-- ---- a table

module _ (s : MemSystem) (t : table_words.Table) (lists : AreReadWhole s t.names) (rows : Rows) (come : RowsCome s t rows) where
  abbrev header : List ℕ
  header = header_bytes t.has_header (map column_of t.columns)

  abbrev Writes : (errors : Change) (from to : Measured) (before : MemSystem) → Result ℕ WriteFailed → (after : MemSystem) → Type 0
  Writes errors from to before result after = WritesMeant may_do memory_reader memory_writer t errors from to before result after

  table_left : (errors : Change) (from to : Measured) (result : Result ℕ WriteFailed) (after : MemSystem) → Writes errors from to s result after → Left (with_header header rows) errors from to result × (after ≡ s)
  table_left errors from to result after (headed mid went fine does) =
      let n = names_left s (tags_of t) (form_of t.texts) t.names lists rows come errors mid to result after does in
      (head_then header rows errors from mid to result went fine n.0, n.1)
  table_left errors from to result after (not_headed failure front failed line same is) = (
    subst (Left (with_header header rows) errors from to) (sym is)
        (record { less = front.front; grown = front.grown; fewer = (let f = front_less front in omega (arith, f)); failed = failed }),
    same,
  )

  -- it was put to an output with room for it
  module _ (errors : Change) (from to : Measured) (status : ℕ) (after : MemSystem) (room : most_of (with_header header rows).parts ≤ room_of from.out) where
    pub puts_left : PutsTable memory_writer Writes errors from to s status after → All (with_header header rows) errors from to status × (after ≡ s)
    puts_left (program.put output reached of_table of_flush writes (program.flushed same fine flushed line is) follows) =
        let x = table_left of_table from output (Ok reached) after writes in
        let y = x.0 in (
          record {
            text = y.text;
            spelled = y.spelled;
            grown = same ∙ y.grown;
            fine = fine ∙ y.fine;
            told = subst (Told errors) (append-nil rows.lines) (told_then errors of_table of_flush follows rows.lines [] y.told (told_of of_flush [] line));
            status_is = is ∙ y.status_is;
          },
          x.1,
        )
    puts_left (program.put output reached of_table of_flush writes (program.not_flushed same failed no_room line is) follows) =
        absurd (let no : Some (room_of output.out) ≡ None = no_room in cc)
    puts_left (program.not_put failure of_table of_line writes line is follows) =
        let x = (table_left of_table from to (Err failure) after writes).0 in
        absurd (no_less from.out to.out x.less (most_of (with_header header rows).parts) x.grown x.failed x.fewer room)

-- ---- words

-- the header and the rows
abbrev parts_of : table_words.Table → Rows → List Part
parts_of t rows = some_bytes (header_bytes t.has_header (map column_of t.columns)) ∷ rows.parts

module _ (s new : MemSystem) (errors new_errors : MemOut) (status : ℕ) where
  abbrev LeftTable : TableOutcome → Type 0
  LeftTable o = LeavesTable o s errors new.written new_errors status

  abbrev e : Change
  e = memory_change errors new_errors

  leave : (o : TableOutcome) → IsTabled o.parts s new.written → Told e o.lines → status ≡ o.status → LeftTable o
  leave o is told was = record { output_is = is; lines_are = λ room. told_left errors new_errors o.lines told room; status_is = was }

  module _ (words : List (List ℕ)) (o : TableOutcome) (comes : TableComes words s o) (room : HasRoomFor o.parts s.room) (lists : ListsAreReadWhole words s) where
    by : (meant : Result table_words.Table TableUsage) → table_words.meant_table words ≡ meant → TableComesBy s meant o
    by meant is = subst (λ (m : Result table_words.Table TableUsage). TableComesBy s m o) is comes

    makes_left : (t : table_words.Table) → table_words.meant_table words ≡ Ok t → MakesTable may_do memory_writer (WritesMeant may_do memory_reader memory_writer t) e s status new → LeftTable o ⊎ (MeansTable words × LeftTable no_memory)
    makes_left t means (program.no_cells none same) = inr ((t, means), leave no_memory (ap (λ (z : MemSystem). z.written) same) (told_of e _ none.line) none.status_is)
    makes_left t means (program.no_stdout cause which gave why line is) =
        let c = by (Ok t) means in
        absurd (room_refused (parts_of t c.0) s.room Other cause (subst (λ (q : TableOutcome). HasRoomFor q.parts s.room) c.2 room) gave.0)
    makes_left t means (program.made out output has_output has_written gave puts closes) =
        let c = by (Ok t) means in
        let is = room_given s.room Other out gave.0 in
        let enough = room_fits (parts_of t c.0) s.room out.device.out is (subst (λ (q : TableOutcome). HasRoomFor q.parts s.room) c.2 room) in
        let empty : MemSystem = record s { room = None } in
        let x = (puts_left empty t (lists t means) c.0 c.1 e out.device output status has_written enough
        (subst (λ (z : MemSystem). PutsTable memory_writer (WritesMeant may_do memory_reader memory_writer t) e out.device output z status has_written) gave.1 puts)).0 in
        let took : Took x.text s.room new.written = record {
          before = out.device.out;
          after = output.out;
          room_is = is;
          output_is = ap (λ (z : MemSystem). z.written) closes.call.1;
          bytes_are = grew (size out.device.out) (size output.out) (written out.device.out) (written output.out) x.text x.grown;
        } in
        inl (subst LeftTable (sym c.2) (leave (spec.tabled t c.0) (x.text, x.spelled, took) x.told x.status_is))

    pub tables_left : ObeysTable may_do memory_reader memory_writer words e s status new → LeftTable o ⊎ (MeansTable words × LeftTable no_memory)
    tables_left (program.refused u means line is same) =
        inl (subst LeftTable (sym (by (Err u) means)) (leave (spec.refused u) (ap (λ (z : MemSystem). z.written) same) (told_of e _ line) is))
    tables_left (program.tabled t means makes) = makes_left t means makes
