-- A file has one row.
use Rattle.std.proofs.Common.{◌≡◌, ◌∙◌, ap, sym, subst, refl, ℕ, List, drop, true, false, arith}
use Rattle.dcm_base.specs.declared.tag.Tag.{Tag}
use Rattle.dcm_base.specs.declared.fault.Fault.{Fault}
use Rattle.dcm_base.specs.declared.syntax.Coding.{Coding}
use Rattle.dcm_base.specs.declared.dictionary.Dictionary.TheVariants.{Standard}
use Rattle.dcm_base.specs.Tables.Syntax.{coding_by}
use Rattle.dcm_base.specs.Tree.Front.{Front}
use Rattle.dcm_base.specs.Tree.Tree.{Trees}
use Rattle.dcm_base.specs.File.MetaReads.{Meta, MetaAnswer, MetaReads, begins, refused as meta_refused}
use Rattle.dcm_base.specs.Reading.Reads.{Reads}
use Rattle.dcm_base.specs.Reading.Stop.{Stop}
use Rattle.dcm_base.proofs.DataSets.OneAnswer.{reads_once}
use Rattle.dcm_cli.proofs.Runs.OneSource.{never_begins}
use Rattle.dcm_head.specs.MetaReading.{meta_finished}
use Rattle.dcm_head.proofs.HeadReading.State.{described}
use Rattle.dcm_head.proofs.HeadReading.Answers.{told}
use Rattle.dcm_head.proofs.MetaGroups.OneGroup.{one_group, from_start}
use Rattle.dcm_head.proofs.MetaGroups.OneMeta.{one_meta}
use Rattle.dcm_stream.specs.Reading.{finish, read_all}
use Rattle.dcm_stream.proofs.Steps.Follows.{answers}
use Rattle.dcm_table.specs.declared.ending.RowEnd.{RowEnd}
use Rattle.dcm_table.specs.declared.ending.RowEnd.TheVariants.{Refused}
use Rattle.dcm_table.specs.Columns.{greatest_of}
use Rattle.dcm_table.specs.Shown.{Held, held_with, meta_held, table_bar, tabled}
use Rattle.dcm_table.proofs.BarAtoms.{tabled_bars}
use Rattle.dcm_cli.specs.Answer.{HeadIs, set_at}
use Rattle.dcm_cli.specs.Pass.{head_read}
use Rattle.dcm_cli.proofs.Passes.MetaHeads.{group_spelled}
use Rattle.dcm_cli.proofs.Runs.Sure.{beginnings_alike}
use Rattle.dcm_tables.specs.RowOf.{ShowsMeta, no_group, of_group, ShowsSet, RowOf, of_meta, of_set, end_of}
use Rattle.dcm_tables.proofs.MetaShown.{shown}

-- ---- at most one

shows_once : (bytes : List ℕ) (e f : Trees) → ShowsMeta bytes e → ShowsMeta bytes f → e ≡ f
shows_once bytes e f (no_group none is) (no_group none' is') = is ∙ sym is'
shows_once bytes e f (no_group none is) (of_group group place some reads) = absurd (let no : false ≡ true = sym none ∙ some in cc)
shows_once bytes e f (of_group group place some reads) (no_group none is) = absurd (let no : false ≡ true = sym none ∙ some in cc)
shows_once bytes e f (of_group g p some reads) (of_group g' p' some' reads') =
    (one_group e f 0 (drop 132 bytes) g g' p p' (from_start (drop 132 bytes) e g p reads) (from_start (drop 132 bytes) f g' p' reads')).elements_are

refused_alike : (f f' : Fault) (n n' : ℕ) → meta_refused f n ≡ meta_refused f' n' → (f ≡ f') × (n ≡ n')
refused_alike f f' n n' e = (cc, cc)

-- two heads of one file
pub record SameHead (m n : Meta) (g h : List ℕ) (c d : Coding) : Type 0 where
  pub metas : m ≡ n
  pub groups : g ≡ h
  pub codings : c ≡ d

pub one_head : (bytes : List ℕ) (m n : Meta) (g h : List ℕ) (c d : Coding) → HeadIs Standard bytes m g c → HeadIs Standard bytes n h d → SameHead m n g h c d
one_head bytes m n g h c d x y =
    let a = beginnings_alike m n g h x.named y.named (one_meta bytes (begins m g x.named) (begins n h y.named) x.head y.head) in
    record { metas = a.0; groups = a.1; codings = x.coding_is ∙ ap (coding_by Standard) a.2 ∙ sym y.coding_is }

-- and two readings of its data set
pub record SameSet (m n : Meta) (c d : Coding) (f k : Front) (stop other : Stop) : Type 0 where
  pub metas : m ≡ n
  pub codings : c ≡ d
  pub fronts : f ≡ k
  pub stops : stop ≡ other

pub one_set : (columns : List Tag) (bytes : List ℕ) (m n : Meta) (g h : List ℕ) (c d : Coding) (f k : Front) (stop other : Stop) → ShowsSet columns bytes m g c f stop → ShowsSet columns bytes n h d k other → SameSet m n c d f k stop other
one_set columns bytes m n g h c d f k stop other x y =
    let a = one_head bytes m n g h c d x.head y.head in
    let there : Reads (table_bar (greatest_of columns)) c.syntax (set_at g) (drop (set_at g) bytes) k other =
    subst (λ (z : Coding). Reads (table_bar (greatest_of columns)) z.syntax (set_at g) (drop (set_at g) bytes) k other) (sym a.codings)
    (subst (λ (z : List ℕ). Reads (table_bar (greatest_of columns)) d.syntax (set_at z) (drop (set_at z) bytes) k other) (sym a.groups) y.reads) in
    let one = reads_once (table_bar (greatest_of columns)) c.syntax (set_at g) (drop (set_at g) bytes) f k stop other x.reads there in
    record { metas = a.metas; codings = a.codings; fronts = one.0; stops = one.1 }

pub one_row : (columns : List Tag) (bytes : List ℕ) (cells others : Held) (end other : RowEnd) → RowOf columns bytes cells end → RowOf columns bytes others other → (cells ≡ others) × (end ≡ other)
one_row columns bytes cells others end other (of_meta f n e head shows c x) (of_meta f' n' e' head' shows' c' x') =
    let same = refused_alike f f' n n' (one_meta bytes (meta_refused f n) (meta_refused f' n') head head') in (
      c ∙ ap (meta_held columns) (shows_once bytes e e' shows shows') ∙ sym c',
      x ∙ (λ i. Refused (record { fault = same.0 i; at = same.1 i })) ∙ sym x',
    )
one_row columns bytes cells others end other (of_meta f n e head shows c x) (of_set m group coding set stop k c' x') =
    absurd (never_begins f n m group k.head.named (one_meta bytes (meta_refused f n) (begins m group k.head.named) head k.head.head))
one_row columns bytes cells others end other (of_set m group coding set stop k c' x') (of_meta f n e head shows c x) =
    absurd (never_begins f n m group k.head.named (one_meta bytes (meta_refused f n) (begins m group k.head.named) head k.head.head))
one_row columns bytes cells others end other (of_set m g coding f stop k c x) (of_set m' g' coding' f' stop' k' c' x') =
    let one = one_set columns bytes m m' g g' coding coding' f f' stop stop' k k' in (
      c ∙ (λ i. (let d : Coding = one.codings i in let n : Meta = one.metas i in held_with d.syntax (one.fronts i) (meta_held columns n.elements))) ∙ sym c',
      x ∙ ap end_of one.stops ∙ sym x',
    )

-- ---- at least one

pub some_row : (columns : List Tag) (bytes : List ℕ) → (cells : Held) × (end : RowEnd) × RowOf columns bytes cells end
some_row columns bytes = let t = told (head_read bytes) bytes (described bytes) in by_head t.answer t.reads
  where
    by_head : (said : MetaAnswer) → MetaReads bytes said → (cells : Held) × (end : RowEnd) × RowOf columns bytes cells end
    by_head (meta_refused fault offset) head =
        let x = shown (meta_finished (head_read bytes)) bytes refl in
        (meta_held columns x.elements, Refused (record { fault = fault; at = offset }), of_meta fault offset x.elements head x.shows refl refl)
    by_head (begins m group named) head =
        let coding : Coding = coding_by Standard named in
        let small = (group_spelled bytes m group named head).2 in
        let g : Tag = greatest_of columns in
        let a = answers (tabled g) (table_bar g) (tabled_bars g) coding.syntax (set_at group) (drop (set_at group) bytes) (omega (arith, small)) in
        let stop : Stop = finish (read_all (tabled g) coding.syntax (set_at group) (drop (set_at group) bytes)).0 in (
          held_with coding.syntax a.f (meta_held columns m.elements),
          end_of stop,
          of_set m group coding a.f stop (record { head = record { named = named; head = head; coding_is = refl }; reads = a.reads }) refl refl,
        )
