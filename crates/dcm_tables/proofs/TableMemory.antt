-- What is done with the names of a table over files in memory.
use Rattle.std.proofs.Common.{◌≡◌, ◌∙◌, ap, sym, subst, refl, ℕ, ◌+◌, ◌<◌, ◌≤◌, List, [], ◌∷◌, ◌++◌, length, length-append, arith, true, false, Option, Some, None, Result, Ok, Err}
use Rattle.std.specs.Prelude.{max}
use Rattle.std.specs.Io.KnownBytes.{append_known}
use Rattle.dcm_lemmas.proofs.Numbers.{added_to_nothing, max_same}
use Rattle.dcm_lemmas.proofs.Options.{known_nothing, known_twice}
use Rattle.dcm_base.specs.declared.tag.Tag.{Tag}
use Rattle.dcm_devices.specs.declared.device.WriteFailed.{WriteFailed}
use Rattle.dcm_devices.specs.declared.memory.MemIn.{MemIn}
use Rattle.dcm_devices.specs.declared.memory.Measured.{Measured}
use Rattle.dcm_files.specs.declared.memory.MemSystem.{MemSystem}
use Rattle.dcm_files.specs.Memory.{may_do}
use Rattle.dcm_names.specs.Names.{can_be_opened}
use Rattle.dcm_table.specs.declared.ending.RowEnd.{RowEnd}
use Rattle.dcm_table.specs.declared.quoted.TextForm.{TextForm}
use Rattle.dcm_table.specs.Parts.{Part, some_bytes, a_float, SpellsPart, SpellsParts, AppendsFrontOfParts}
use Rattle.dcm_table.specs.Shown.{Held}
use Rattle.dcm_table.proofs.PartsOut.{spells_both}
use Rattle.dcm_table_words.specs.Table as table_words
use Rattle.dcm_cli.specs.Change.{Change}
use Rattle.dcm_cli.specs.ErrorLines.{Reports}
use Rattle.dcm_cli.specs.Program.{Follows}
use Rattle.dcm_cli.specs.Status.{DONE}
use Rattle.dcm_cli.proofs.Passes.Readers.{known}
use Rattle.dcm_cli.proofs.Runs.InMemory.{memory_reader, memory_writer}
use Rattle.dcm_tables.specs.Deciding.{DoesRow, row_written, row_unwritten, row_unread}
use Rattle.dcm_tables.specs.RowOf.{RowOf}
use Rattle.dcm_each.specs.Each as each
use Rattle.dcm_each.specs.Each.{OpensAt, not_tried, opened_at, DoesAt, not_opened, done_at, DoesName, DoneSoFar, none_done, and_done, DoesAll, all_names, failed_at}
use Rattle.dcm_each.proofs.InMemory.{Told, told_of, told_then, front_less, held, opened_is}
use Rattle.dcm_tables.specs.Table.{rows_into}
use Rattle.dcm_tables.specs.TableInMemory.{Rows, no_rows, and_rows, AllCome, file_of, unopened, row_with, FileComes, most_of_part, most_of}
use Rattle.dcm_tables.proofs.OneRow.{one_row}
use Rattle.dcm_tables.proofs.RowsAlike.{Split, split, both_rows, rows_none}

-- ---- texts of parts

part_most : (p : Part) (text : List ℕ) → SpellsPart p text → length text ≤ most_of_part p
part_most (some_bytes bytes) text e = let h = ap length e in omega (arith, h)
part_most (a_float w bits) text h = h.short

pub text_most : (parts : List Part) (text : List ℕ) → SpellsParts parts text → length text ≤ most_of parts
text_most [] text e = let h = ap length e in omega (arith, h)
text_most (p ∷ parts) text (first, rest, is, one, more) =
    let a = part_most p first one in
    let b = text_most parts rest more in
    let h = ap length is ∙ length-append first rest in
    omega (arith, a, b, h)

pub most_both : (ps qs : List Part) → most_of (ps ++ qs) ≡ most_of ps + most_of qs
most_both [] qs = added_to_nothing (most_of qs)
most_both (p ∷ ps) qs = let h = most_both ps qs in omega (arith, h)

-- ---- what was done for rows

-- all of them were written and reported
pub record All (rows : Rows) (errors : Change) (from to : Measured) (status : ℕ) : Type 0 where
  pub text : List ℕ
  pub spelled : SpellsParts rows.parts text
  pub grown : held to ≡ append_known (held from) text
  pub fine : to.out.failed ≡ from.out.failed
  pub told : Told errors rows.lines
  pub status_is : status ≡ rows.status

-- the output failed before it had all of them
pub record Less (rows : Rows) (from to : Measured) : Type 0 where
  pub less : List ℕ
  pub grown : held to ≡ append_known (held from) less
  pub fewer : length less < most_of rows.parts
  pub failed : to.out.failed ≡ true

abbrev pub Left : Rows → Change → (from to : Measured) → Result ℕ WriteFailed → Type 0
Left rows errors from to (Ok status) = All rows errors from to status
Left rows errors from to (Err failure) = Less rows from to

pub all_then : (a b : Rows) (whole first second : Change) (from mid to : Measured) (m n k : ℕ) → All a first from mid n → All b second mid to k → Follows whole first second → m ≡ max n k → All (and_rows a b) whole from to m
all_then a b whole first second from mid to m n k x y follows is = record {
  text = x.text ++ y.text;
  spelled = spells_both a.parts b.parts x.text y.text x.spelled y.spelled;
  grown = y.grown ∙ ap (λ (h : Option (List ℕ)). append_known h y.text) x.grown ∙ known_twice (held from) x.text y.text;
  fine = y.fine ∙ x.fine;
  told = told_then whole first second follows a.lines b.lines x.told y.told;
  status_is = max_same n a.status k b.status m is x.status_is y.status_is;
}

pub less_then : (a b c : Rows) (first : Change) (from mid to : Measured) (n : ℕ) → All a first from mid n → Less b mid to → Less (and_rows a (and_rows b c)) from to
less_then a b c first from mid to n x y = record {
  less = x.text ++ y.less;
  grown = y.grown ∙ ap (λ (h : Option (List ℕ)). append_known h y.less) x.grown ∙ known_twice (held from) x.text y.less;
  fewer =
      let t = text_most a.parts x.text x.spelled in
      let l = length-append x.text y.less in
      let p = most_both a.parts (b.parts ++ c.parts) in
      let q = most_both b.parts c.parts in
      let f = y.fewer in
      omega (arith, t, l, p, q, f);
  failed = y.failed;
}

-- ---- one file

module _ (columns : List Tag) (form : TextForm) (name : List ℕ) (errors : Change) (from to : Measured) where
  alike : (a b : Rows) (r t : Result ℕ WriteFailed) → a ≡ b → r ≡ t → Left a errors from to r → Left b errors from to t
  alike a b r t e f left = subst (λ (z : Rows). Left z errors from to t) e (subst (Left a errors from to) f left)

  -- it has the row of its bytes
  same_row : (bytes : List ℕ) (cells : Held) (end : RowEnd) (rows : Rows) → RowOf columns bytes cells end → FileComes columns form name (Some bytes) rows → row_with form name cells end ≡ rows
  same_row bytes cells end rows row (others, other, is, same) =
      let one = one_row columns bytes cells others end other row is in
      (λ i. row_with form name (one.0 i) (one.1 i)) ∙ sym same

  pub row_left : (input left : MemIn) (result : Result ℕ WriteFailed) (rows : Rows) → DoesRow memory_reader memory_writer columns form name errors from to input result left → FileComes columns form name (Some input.rest.now) rows
      → Left rows errors from to result
  row_left input left result rows (row_written cells end decides went failed reports is) comes =
      let k = known memory_reader _ input left decides.given decides.how decides.reads input.rest.now refl in
      let row = subst (λ (bytes : List ℕ). RowOf columns bytes cells end) (sym k.2) (decides.comes k.0 k.1) in
      alike (row_with form name cells end) rows _ result (same_row input.rest.now cells end rows row comes) (sym is)
      (record { text = went.text; spelled = went.spelled; grown = went.grown; fine = failed; told = told_of errors _ reports; status_is = refl })
  row_left input left result rows (row_unwritten cells end failure decides went failed reports is) comes =
      let k = known memory_reader _ input left decides.given decides.how decides.reads input.rest.now refl in
      let row = subst (λ (bytes : List ℕ). RowOf columns bytes cells end) (sym k.2) (decides.comes k.0 k.1) in
      alike (row_with form name cells end) rows (Err failure) result (same_row input.rest.now cells end rows row comes) (sym is)
      (record { less = went.front.front; grown = went.front.grown; fewer = front_fewer (row_with form name cells end).parts went; failed = failed })
    where
      front_fewer : (parts : List Part) (a : AppendsFrontOfParts (held from) (held to) parts) → length a.front.front < most_of parts
      front_fewer parts a =
          let short = front_less a.front in
          let most = text_most a.first a.text a.spelled in
          let all = ap most_of a.whole ∙ most_both a.first a.others in
          omega (arith, short, most, all)
  row_left input left result rows (row_unread cells count decides same reports is) comes = absurd (let no : false ≡ true = decides.failed in cc)

-- ---- one name

-- nothing was opened, and that was reported
pub unopened_left : (name : List ℕ) (rows : Rows) (errors : Change) (from to : Measured) (result : Result ℕ WriteFailed) → rows ≡ unopened name → Reports errors (unopened name).lines → to ≡ from → result ≡ Ok (unopened name).status → Left rows errors from to result
unopened_left name rows errors from to result none line same is =
    subst (λ (z : Rows). Left z errors from to result) (sym none)
    (subst (Left (unopened name) errors from to) (sym is)
    (record { text = []; spelled = refl; grown = ap held same ∙ sym (known_nothing (held from)); fine = ap (λ (m : Measured). m.out.failed) same; told = told_of errors _ line; status_is = refl }))

module _ (s : MemSystem) (columns : List Tag) (form : TextForm) where
  pub at_left : (name path : List ℕ) (rows : Rows) (errors : Change) (from to : Measured) (result : Result ℕ WriteFailed) (after : MemSystem)
      → DoesAt may_do (rows_into memory_reader memory_writer columns form) name path (can_be_opened name) errors from to s result after → FileComes columns form name (file_of s name path) rows
      → Left rows errors from to result × (after ≡ s)
  at_left name path rows errors from to result after (not_opened opens line same is) comes =
      let o = opened_is s (can_be_opened name) path None after opens in
      (unopened_left name rows errors from to result (subst (λ (f : Option (List ℕ)). FileComes columns form name f rows) o.0 comes) line same is, o.1)
  at_left name path rows errors from to result after (done_at i left has opens does back) comes =
      let o = opened_is s (can_be_opened name) path (Some i) has opens in
      (row_left columns form name errors from to i.device left result rows does (subst (λ (f : Option (List ℕ)). FileComes columns form name f rows) o.0 comes), back ∙ o.1)

-- ---- names, one after another

-- nothing was done
pub nothing_left : (errors : Change) (from to : Measured) (rows : Rows) (status : ℕ) → Reports errors [] → to ≡ from → rows ≡ no_rows → status ≡ DONE → All rows errors from to status
nothing_left errors from to rows status line same none is =
    subst (λ (z : Rows). All z errors from to status) (sym none)
    (record { text = []; spelled = refl; grown = ap held same ∙ sym (known_nothing (held from)); fine = ap (λ (m : Measured). m.out.failed) same; told = told_of errors _ line; status_is = is })

-- the last of several
last_rows : (first later end rows : Rows) → rows ≡ and_rows first later → later ≡ and_rows end no_rows → rows ≡ and_rows first end
last_rows first later end rows e f = e ∙ both_rows refl (f ∙ rows_none end)

module _ {X : Type 0} (s : MemSystem) (Does : X → each.Writing MemSystem Measured) (Comes : X → Rows → Type 0)
    (name_left : (name : X) (rows : Rows) (errors : Change) (from to : Measured) (result : Result ℕ WriteFailed) (after : MemSystem) → Does name errors from to s result after → Comes name rows → Left rows errors from to result × (after ≡ s)) where
  -- one name after others
  pub one_more : (others : List X) (name : X) (rows : Rows) (p : Split Comes others (name ∷ []) rows) (errors of_others of_name : Change) (from mid to : Measured) (reached ended status : ℕ) (between after : MemSystem)
      → All p.first of_others from mid reached × (between ≡ s) → Does name of_name mid to between (Ok ended) after → Follows errors of_others of_name → status ≡ max reached ended → All rows errors from to status × (after ≡ s)
  one_more others name rows p errors of_others of_name from mid to reached ended status between after first does follows is =
      let one = p.of_later in
      let next = name_left name one.0 of_name mid to (Ok ended) after (subst (λ (z : MemSystem). Does name of_name mid to z (Ok ended) after) first.1 does) one.2 in
      let later : p.later ≡ and_rows one.0 no_rows = one.4 ∙ both_rows refl one.3 in (
        subst (λ (z : Rows). All z errors from to status) (sym (last_rows p.first p.later one.0 rows p.whole later))
            (all_then p.first one.0 errors of_others of_name from mid to status reached ended first.0 next.0 follows is),
        next.1,
      )

  -- and the output failed at it
  pub one_failed : (others later : List X) (name : X) (rows : Rows) (p : Split Comes others (name ∷ later) rows) (of_others of_name : Change) (from mid to : Measured) (reached : ℕ) (failure : WriteFailed) (between after : MemSystem)
      → All p.first of_others from mid reached × (between ≡ s) → Does name of_name mid to between (Err failure) after → Less rows from to × (after ≡ s)
  one_failed others later name rows p of_others of_name from mid to reached failure between after first does =
      let one = p.of_later in
      let next = name_left name one.0 of_name mid to (Err failure) after (subst (λ (z : MemSystem). Does name of_name mid to z (Err failure) after) first.1 does) one.2 in (
        subst (λ (z : Rows). Less z from to) (sym (p.whole ∙ both_rows refl one.4))
            (less_then p.first one.0 one.1 of_others from mid to reached first.0 next.0),
        next.1,
      )

module _ (s : MemSystem) (columns : List Tag) (form : TextForm) where
  abbrev Does : table_words.Name → each.Writing MemSystem Measured
  Does name errors from to before result after = DoesName may_do memory_reader (rows_into memory_reader memory_writer columns form) name errors from to before result after

  module _ (Comes : table_words.Name → Rows → Type 0)
      (name_left : (name : table_words.Name) (rows : Rows) (errors : Change) (from to : Measured) (result : Result ℕ WriteFailed) (after : MemSystem) → Does name errors from to s result after → Comes name rows → Left rows errors from to result × (after ≡ s)) where
    so_far_left : (from : Measured) (errors : Change) (to : Measured) (names : List table_words.Name) (status : ℕ) (after : MemSystem) (rows : Rows) → DoneSoFar Does from s errors to names status after → AllCome Comes names rows
        → All rows errors from to status × (after ≡ s)
    so_far_left from errors to names status after rows (none_done line same none is was) come =
        (nothing_left errors from to rows status line same (subst (λ (ns : List table_words.Name). AllCome Comes ns rows) none come) is, was)
    so_far_left from errors to names status after rows (and_done others name reached ended mid between of_others of_name so_far does follows whole is) come =
        let p = split Comes others (name ∷ []) rows (subst (λ (ns : List table_words.Name). AllCome Comes ns rows) whole come) in
        let first = so_far_left from of_others mid others reached between p.first so_far p.of_first in
        one_more s Does Comes name_left others name rows p errors of_others of_name from mid to reached ended status between after first does follows is

    pub all_left : (names : List table_words.Name) (errors : Change) (from to : Measured) (result : Result ℕ WriteFailed) (after : MemSystem) (rows : Rows) → DoesAll Does names errors from to s result after → AllCome Comes names rows
        → Left rows errors from to result × (after ≡ s)
    all_left names errors from to result after rows (all_names status so_far is) come =
        let l = so_far_left from errors to names status after rows so_far come in
        (subst (Left rows errors from to) (sym is) l.0, l.1)
    all_left names errors from to result after rows (failed_at others later name status mid between of_others of_name failure so_far does follows whole is) come =
        let p = split Comes others (name ∷ later) rows (subst (λ (ns : List table_words.Name). AllCome Comes ns rows) whole come) in
        let first = so_far_left from of_others mid others status between p.first so_far p.of_first in
        let l = one_failed s Does Comes name_left others later name rows p of_others of_name from mid to status failure between after first does in
        (subst (Left rows errors from to) (sym is) l.0, l.1)
