-- What was read of a file, and its row.
use Rattle.std.proofs.Common.{◌≡◌, ◌∙◌, ap, sym, subst, refl, ℕ, ◌≤◌, List, [], ◌++◌, append_assoc, append-nil, length, length-append, drop, Bool, false, Some, None, inl, inr, arith}
use Rattle.std.specs.Prelude.{◌⊎◌, Ok}
use Rattle.std.proofs.lemmas.List.{drop-append-le}
use Rattle.dcm_base.specs.declared.tag.Tag.{Tag}
use Rattle.dcm_base.specs.declared.fault.Stop.{Stop as HaltStop}
use Rattle.dcm_base.specs.declared.syntax.Coding.{Coding}
use Rattle.dcm_base.specs.declared.dictionary.Dictionary.TheVariants.{Standard}
use Rattle.dcm_base.specs.Tables.Syntax.{Little, coding_by}
use Rattle.dcm_base.specs.Tree.Front.{Front}
use Rattle.dcm_base.specs.Tree.Tree.{Trees}
use Rattle.dcm_base.specs.Bytes.Spelling.{Spells}
use Rattle.dcm_base.specs.File.MetaGroup.{AreMeta}
use Rattle.dcm_base.specs.Reading.Reads.{INPUT_LIMIT, Reads}
use Rattle.dcm_base.specs.Reading.Stop.{Stop}
use Rattle.dcm_head.specs.declared.meta_read.MetaEnd.TheVariants as meta_ends
use Rattle.dcm_head.specs.MetaReading.{Reading as HeadReading, group_of, meta_finished}
use Rattle.dcm_stream.specs.Driven.{driven}
use Rattle.dcm_stream.specs.Reading.{start_of}
use Rattle.dcm_table.specs.declared.ending.RowEnd.{RowEnd}
use Rattle.dcm_table.specs.declared.ending.RowEnd.TheVariants as rows
use Rattle.dcm_table.specs.Columns.{greatest_of}
use Rattle.dcm_table.specs.Shown.{Held, held_by, meta_held, meta_slots, table_bar, trees_unknown}
use Rattle.dcm_table.specs.TableSink.{Slot, State, begun, next, writes, table_bar_of}
use Rattle.dcm_table.proofs.RowCells.{all_settle, held_at}
use Rattle.dcm_table.proofs.MetaCells.{meta_fills, meta_settles}
use Rattle.dcm_cli.specs.declared.ending.Ending.{Ending}
use Rattle.dcm_cli.specs.declared.ending.Ending.TheVariants as endings
use Rattle.dcm_cli.specs.declared.ending.HeadEnding.TheVariants as heads
use Rattle.dcm_cli.specs.declared.ending.Verdict.TheVariants as verdicts
use Rattle.dcm_cli.specs.declared.head.Beginning.{Beginning}
use Rattle.dcm_cli.specs.Answer.{set_at}
use Rattle.dcm_cli.specs.InputCalls.{Reader, How, to_end, Allows}
use Rattle.dcm_cli.specs.Opening.{HeadRead}
use Rattle.dcm_cli.specs.Pass.{Begins, Ends, FailsHead, HeadGoesOn, HeadReads, SetGoesOn, TellsUnread, head_read, set_bytes}
use Rattle.dcm_cli.proofs.Passes.MetaHeads.{Opened, not_opened, ended_stays, finished_same, goes_on_still}
use Rattle.dcm_cli.proofs.Passes.Opens.{head_opened}
use Rattle.dcm_cli.proofs.Passes.Readers.{allows_any, allows_nothing, nothing_follows, ends_empty, for_another, joined}
use Rattle.dcm_cli.proofs.Runs.Stopping.{began_gave}
use Rattle.dcm_tables.specs.declared.file.FileEnd.{FileEnd}
use Rattle.dcm_tables.specs.declared.file.FileEnd.TheVariants.{Read, Unread}
use Rattle.dcm_tables.specs.Files.{ReadsFile, ReadsTable, TakesMeta, no_set, not_read, set_read, set_end}
use Rattle.dcm_tables.specs.Deciding.{Comes, DecidesRow, TellsEnd}
use Rattle.dcm_tables.specs.RowOf.{RowOf, of_meta, of_set, FailsAfter, in_head, behind_head, IsUndecided, in_meta, in_set, end_of}
use Rattle.dcm_tables.proofs.MetaShown.{shown}
use Rattle.dcm_tables.proofs.TableReads.{SetTaken, taken, not_taken, set_taken, set_undecided}

-- ---- cells that are settled

-- ---- the head of a file

-- while it goes on, more bytes can change how the reading ends
pub head_undecided : (columns : List Tag) (bytes : List ℕ) → HeadGoesOn bytes → IsUndecided columns bytes
head_undecided columns bytes going = let still = goes_on_still bytes going in in_meta still.0 still.1 still.2

head_failed : (columns : List Tag) (bytes : List ℕ) (unknown : Bool) → HeadGoesOn bytes → unknown ≡ false → FailsAfter columns bytes unknown
head_failed columns bytes unknown going none = let still = goes_on_still bytes going in in_head still.0 still.1 still.2 none

-- the cells after the elements of its meta group
pub taken_meta : (columns : List Tag) (m : HeadReading) (t : State) (elements : Trees) → TakesMeta m (begun columns) t → Spells Little elements (group_of m) → AreMeta elements → t ≡ held_at (greatest_of columns) (meta_held columns elements)
taken_meta columns m t elements takes spelled meta = takes elements spelled meta ∙ meta_fills columns elements

-- a head that is at fault is so whatever follows
finished_over : (m : HeadReading) (read rest : List ℕ) (how : How) (stop : HaltStop) → Allows how rest → FailsHead m how read (heads.Refused stop) → meta_finished (head_read (read ++ rest)) ≡ m
finished_over m read rest how stop ok f = by_finish f.1
  where
    by_finish : (m ≡ head_read read) ⊎ ((how ≡ to_end) × (m ≡ meta_finished (head_read read))) → meta_finished (head_read (read ++ rest)) ≡ m
    by_finish (inl e) = ap meta_finished (ended_stays m read rest (meta_ends.Refused stop) e f.0) ∙ finished_same m (meta_ends.Refused stop) f.0
    by_finish (inr x) =
        ap (λ (bs : List ℕ). meta_finished (head_read (read ++ bs))) (nothing_follows how rest ok x.0)
        ∙ ap (λ (bs : List ℕ). meta_finished (head_read bs)) (append-nil read)
        ∙ sym x.1

pub refused_row : (columns : List Tag) (file : List ℕ) (m : HeadReading) (stop : HaltStop) (t : State) → meta_finished (head_read file) ≡ m → m.end ≡ Some (meta_ends.Refused stop) → TakesMeta m (begun columns) t
    → RowOf columns file (held_by t) (rows.Refused stop)
refused_row columns file m stop t fin is takes =
    let x = shown m file fin in
    let cells : held_by t ≡ meta_held columns x.elements =
    ap held_by (taken_meta columns m t x.elements takes x.spelled x.meta)
    ∙ ap (λ (slots : List Slot). let h : Held = record { slots = slots; unknown = trees_unknown x.elements } in h) (all_settle (meta_slots columns x.elements) (meta_settles columns x.elements)) in
    of_meta stop.fault stop.at x.elements (not_opened m file stop fin is) x.shows cells refl

-- ---- a file whose data set was read

-- how the reading ended is how the row says it
ended_as : (end : FileEnd) (e : RowEnd) (ending : Ending) (stop : Stop) → end ≡ Read e → end ≡ set_end ending → set_end ending ≡ Read (end_of stop) → e ≡ end_of stop
ended_as end e ending stop is said came = let both : Read e ≡ Read (end_of stop) = sym is ∙ said ∙ came in cc

read_not_unread : (end : FileEnd) (e : RowEnd) (ending : Ending) (n : ℕ) → end ≡ Read e → end ≡ set_end ending → ending ≡ endings.Unread n → ⊥
read_not_unread end e ending n is said came = let both : Read e ≡ Unread n = sym is ∙ said ∙ ap set_end came in cc

unread_not_read : (end : FileEnd) (count : ℕ) (ending : Ending) (stop : Stop) → end ≡ Unread count → end ≡ set_end ending → set_end ending ≡ Read (end_of stop) → ⊥
unread_not_read end count ending stop is said came = let both : Unread count ≡ Read (end_of stop) = sym is ∙ said ∙ came in cc

unread_count : (end : FileEnd) (count : ℕ) (ending : Ending) (n : ℕ) → end ≡ Unread count → end ≡ set_end ending → ending ≡ endings.Unread n → count ≡ n
unread_count end count ending n is said came = let both : Unread count ≡ Unread n = sym is ∙ said ∙ ap set_end came in cc

module _ (columns : List Tag) (read : List ℕ) (how : How) (buffer : List ℕ) (m : HeadReading) (b : Beginning) (named : Coding) (begins : Begins m b buffer how read) (end_is : m.end ≡ Some (meta_ends.Ended named)) (t : State) (takes : TakesMeta m (begun columns) t) where
  abbrev coding : Coding
  coding = coding_by Standard named

  abbrev greatest : Tag
  greatest = greatest_of columns

  abbrev buffered : List ℕ
  buffered = set_bytes b buffer

  h : HeadRead Standard read how buffer m b coding m.place
  h = record { begins = begins; named = named; end_is = end_is; coding_is = refl; start_is = refl }

  within : m.place ≤ length read
  within = let p = begins.place in omega (arith, p)

  -- the bytes of the data set
  set_there : (more : List ℕ) → drop m.place (read ++ more) ≡ buffered ++ more
  set_there more = drop-append-le m.place read more within ∙ ap (λ (bs : List ℕ). bs ++ more) begins.set

  module _ (more : List ℕ) (ok : Allows how more) where
    abbrev o : Opened Standard m (read ++ more)
    o = head_opened Standard read more how ok buffer m b coding m.place h

    cells : t ≡ held_at greatest (meta_held columns o.m.elements)
    cells = taken_meta columns m t o.m.elements takes (subst (Spells Little o.m.elements) (sym o.group_is) o.spelled) o.meta

    small : set_at o.group ≤ INPUT_LIMIT
    small = let most = o.within in omega (arith, most)

    abbrev SetReads : List ℕ → Front → Stop → Type 0
    SetReads bytes f stop = Reads (table_bar greatest) coding.syntax (set_at o.group) bytes f stop

    placed : (f : Front) (stop : Stop) → SetReads (buffered ++ more) f stop → SetReads (drop (set_at o.group) (read ++ more)) f stop
    placed f stop reads = subst (λ (bs : List ℕ). SetReads bs f stop) (sym (ap (λ (n : ℕ). drop n (read ++ more)) (sym o.place_is) ∙ set_there more)) reads

    -- more bytes can change how the reading ends
    undecided_at : (driven table_bar_of next t coding.syntax m.place (buffered ++ more)).0.halt ≡ None → IsUndecided columns (read ++ more)
    undecided_at none =
        let there : (driven table_bar_of next (held_at greatest (meta_held columns o.m.elements)) coding.syntax (set_at o.group) (buffered ++ more)).0.halt ≡ None =
        subst (λ (n : ℕ). (driven table_bar_of next (held_at greatest (meta_held columns o.m.elements)) coding.syntax n (buffered ++ more)).0.halt ≡ None) o.place_is
        (subst (λ (x : State). (driven table_bar_of next x coding.syntax m.place (buffered ++ more)).0.halt ≡ None) cells none) in
        let u = set_undecided greatest (meta_held columns o.m.elements) (meta_settles columns o.m.elements) coding.syntax (set_at o.group) small (buffered ++ more) there in
        in_set o.m o.group coding u.f u.stop (record { head = o.reads; reads = placed u.f u.stop u.reads }) u.undecided

  module _ (more rest : List ℕ) (ok : Allows how (more ++ rest)) where
    abbrev p : Opened Standard m (read ++ (more ++ rest))
    p = o (more ++ rest) ok

    -- what the cells took of the data set
    set_ended : (new : State) (ending : Ending) → Ends table_bar_of next writes (start_of coding.syntax m.place) t None (Some rest) new None (buffered ++ more) ending
        → SetTaken greatest (meta_held columns p.m.elements) (meta_settles columns p.m.elements) coding.syntax (set_at p.group) (small (more ++ rest) ok) (buffered ++ more) rest new ending
    set_ended new ending ends =
        set_taken greatest (meta_held columns p.m.elements) (meta_settles columns p.m.elements) coding.syntax (set_at p.group) (small (more ++ rest) ok) (buffered ++ more) rest new ending
        (subst (λ (n : ℕ). Ends table_bar_of next writes (start_of coding.syntax n) (held_at greatest (meta_held columns p.m.elements)) None (Some rest) new None (buffered ++ more) ending) p.place_is
        (subst (λ (x : State). Ends table_bar_of next writes (start_of coding.syntax m.place) x None (Some rest) new None (buffered ++ more) ending) (cells (more ++ rest) ok) ends))

    -- it was read
    row_read : (new : State) (end : FileEnd) (e : RowEnd) (ending : Ending) → end ≡ Read e → end ≡ set_end ending
        → SetTaken greatest (meta_held columns p.m.elements) (meta_settles columns p.m.elements) coding.syntax (set_at p.group) (small (more ++ rest) ok) (buffered ++ more) rest new ending
        → RowOf columns ((read ++ more) ++ rest) (held_by new) e
    row_read new end e ending is said (taken f stop reads filled came) =
        subst (λ (bs : List ℕ). RowOf columns bs (held_by new) e) (sym (append_assoc read more rest))
        (of_set p.m p.group coding f stop
        (record { head = p.reads; reads = placed (more ++ rest) ok f stop (subst (λ (bs : List ℕ). SetReads (more ++ rest) ok bs f stop) (append_assoc buffered more rest) reads) })
        filled (ended_as end e ending stop is said came))
    row_read new end e ending is said (not_taken u unknown came) = absurd (read_not_unread end e ending _ is said came)

    -- or reading failed
    row_unread : (new : State) (end : FileEnd) (count : ℕ) (ending : Ending) → end ≡ Unread count → end ≡ set_end ending → rest ≡ []
        → SetTaken greatest (meta_held columns p.m.elements) (meta_settles columns p.m.elements) coding.syntax (set_at p.group) (small (more ++ rest) ok) (buffered ++ more) rest new ending
        → FailsAfter columns (read ++ more) new.unknown × (count ≡ length (read ++ more))
    row_unread new end count ending is said none (taken f stop reads filled came) = absurd (unread_not_read end count ending stop is said came)
    row_unread new end count ending is said none (not_taken u unknown came) =
        let all_read : more ++ rest ≡ more = ap (λ (bs : List ℕ). more ++ bs) none ∙ append-nil more in
        let reads = placed (more ++ rest) ok u.f u.stop (subst (λ (bs : List ℕ). SetReads (more ++ rest) ok (buffered ++ bs) u.f u.stop) (sym all_read) u.reads) in
        let failed : FailsAfter columns (read ++ (more ++ rest)) new.unknown = behind_head p.m p.group coding u.f u.stop (record { head = p.reads; reads = reads }) u.undecided unknown in
        let size = begins.place in
        let place = p.place_is in
        let all = length-append buffered more in
        let whole = length-append read more in
        (subst (λ (bs : List ℕ). FailsAfter columns (read ++ bs) new.unknown) all_read failed, unread_count end count ending _ is said came ∙ omega (arith, size, place, all, whole))

-- ---- any file

-- the reader of a data set failed exactly where that is how the reading of its file ended
set_failed : (failed_before failed_after : Bool) (ending : Ending) → TellsUnread failed_before failed_after ending → TellsEnd failed_before failed_after (set_end ending)
set_failed failed_before failed_after (endings.Worked (verdicts.Done mask)) t = t
set_failed failed_before failed_after (endings.Worked verdicts.PixelsMayShow) t = t
set_failed failed_before failed_after (endings.Worked (verdicts.Refused stop)) t = t
set_failed failed_before failed_after (endings.Worked (verdicts.RefusedLine stop)) t = t
set_failed failed_before failed_after (endings.Unread count) t = t
set_failed failed_before failed_after endings.Output t = t

module _ {R : Type 0} (r : Reader R) (columns : List Tag) (before after : R) where
  set_comes : (m : HeadReading) (had held : List ℕ) (b : Beginning) (mid : R) (t new : State) (end : FileEnd) → HeadReads r before mid m had held (Ok b) → TakesMeta m (begun columns) t → ReadsTable r mid after m b held t new end
      → DecidesRow r before after columns (held_by new) end
  set_comes m had held b mid t new end head takes x =
      let set = x.reads in
      let coding : Coding = coding_by Standard x.coding in
      let Going : List ℕ → Type 0 = SetGoesOn table_bar_of next b.is_over (set_bytes b held) (start_of coding.syntax m.place) t in
      let j = joined r HeadGoesOn Going (IsUndecided columns) before mid after head.read set.more head.how set.how head.reads set.reads (head_undecided columns)
      (λ more is going. undecided_at columns head.read head.how held m b x.coding head.outcome x.named t takes more (allows_any head.how is more) going.1)
      (λ more going. began_gave r before mid m b held head.read head.how head.outcome head.reads going.0)
      in
      let ends : (rest : List ℕ) → Allows j.how rest → Ends table_bar_of next writes (start_of coding.syntax m.place) t None (Some rest) new None (set_bytes b held ++ set.more) x.ending = λ rest ok.
      let a = j.allows rest ok in
      set.ends rest a.1 (λ over. ends_empty set.more rest (nothing_follows head.how (set.more ++ rest) a.0 (head.outcome.over over)))
      in
      let comes : (e : FileEnd) → end ≡ e → Comes columns (head.read ++ set.more) j.how (held_by new) e = λ e. elim e as (λ (e : FileEnd). end ≡ e → Comes columns (head.read ++ set.more) j.how (held_by new) e) [
        | Read f ↦ λ is rest ok.
            let a = j.allows rest ok in
            row_read columns head.read head.how held m b x.coding head.outcome x.named t takes set.more rest a.0 new end f x.ending is x.ends
            (set_ended columns head.read head.how held m b x.coding head.outcome x.named t takes set.more rest a.0 new x.ending (ends rest ok))
        | Unread count ↦ λ is.
            let ok = allows_nothing j.how in
            let a = j.allows [] ok in
            row_unread columns head.read head.how held m b x.coding head.outcome x.named t takes set.more [] a.0 new end count x.ending is x.ends refl
            (set_ended columns head.read head.how held m b x.coding head.outcome x.named t takes set.more [] a.0 new x.ending (ends [] ok))
      ] in
      record {
        given = head.read ++ set.more;
        how = j.how;
        reads = j.reads;
        comes = comes end refl;
        failed = subst (TellsEnd (r.has_failed before) (r.has_failed after)) (sym x.ends)
            (set_failed (r.has_failed before) (r.has_failed after) x.ending (subst (λ (f : Bool). TellsUnread f (r.has_failed after) x.ending) head.failed x.unread));
      }

  pub row_comes : (new : State) (end : FileEnd) → ReadsFile r before after (begun columns) new end → DecidesRow r before after columns (held_by new) end
  row_comes new end (no_set m had held stop head takes is) = record {
    given = head.read;
    how = head.how;
    reads = for_another r HeadGoesOn (IsUndecided columns) before after head.read head.how (head_undecided columns) head.reads;
    comes = subst (Comes columns head.read head.how (held_by new)) (sym is)
        (λ rest ok. refused_row columns (head.read ++ rest) m stop new (finished_over m head.read rest head.how stop ok head.outcome) head.outcome.0 takes);
    failed = subst (TellsEnd (r.has_failed before) (r.has_failed after)) (sym is) head.failed;
  }
  row_comes new end (not_read m had held count head same is) = record {
    given = head.read;
    how = head.how;
    reads = for_another r HeadGoesOn (IsUndecided columns) before after head.read head.how (head_undecided columns) head.reads;
    comes = subst (Comes columns head.read head.how (held_by new)) (sym is)
        (head_failed columns head.read (held_by new).unknown (ap (λ (x : HeadReading). x.end) (sym head.outcome.0) ∙ head.outcome.1) (ap (λ (x : State). x.unknown) same), head.outcome.2);
    failed = subst (TellsEnd (r.has_failed before) (r.has_failed after)) (sym is) head.failed;
  }
  row_comes new end (set_read m had held b mid t head takes x) = set_comes m had held b mid t new end head takes x
