-- The status of a run that visits its names is 0 exactly where each row says that its name is done.
use Rattle.std.proofs.Common.{◌≡◌, ◌≢◌, ◌∙◌, arith, refl, sym, ap, subst, ℕ, max, List, [], ◌∷◌, ◌++◌, Bool, true, false, Option, Some, None, Result, Ok, Err}
use Rattle.dcm_devices.specs.Writing.{Writer}
use Rattle.dcm_walk.specs.Folder.{WalksFolder}
use Rattle.dcm_walk.specs.List.{WalksList}
use Rattle.dcm_walk.specs.Visits.{Named}
use Rattle.dcm_walk.specs.declared.list.ListEnd.{ListEnd}
use Rattle.dcm_walk.specs.declared.visitor.Stopped.{Stopped}
use Rattle.dcm_walk.specs.declared.visitor.What.{What}
use Rattle.dcm_cli.specs.Status.{DONE}
use Rattle.dcm_trees.specs.declared.file.Done.{Done}
use Rattle.dcm_trees.specs.declared.progress.Shared.{Shared}
use Rattle.dcm_trees.specs.declared.progress.Stop.{Stop}
use Rattle.dcm_trees.specs.declared.progress.Stop.TheVariants as stops
use Rattle.dcm_trees.specs.declared.progress.Work.{Work}
use Rattle.dcm_trees.specs.declared.run.End.{End}
use Rattle.dcm_trees.specs.declared.run.End.TheVariants.{Whole, Unread, Stopped as WasStopped}
use Rattle.dcm_trees.specs.Fate.{status as fate_status}
use Rattle.dcm_trees.specs.File.{DoesName}
use Rattle.dcm_trees.specs.Manner.{manner_of}
use Rattle.dcm_trees.specs.Run.{end_by, end_of, end_status}
use Rattle.dcm_trees.specs.Tree.{as_list}
use Rattle.dcm_trees.specs.Work as spec
use Rattle.dcm_trees.specs.Work.{Progress, VisitsName, progress, visits_of}
use Rattle.dcm_trees.specs.World.{World}
use Rattle.dcm_tree_laws.specs.OneRow.{Became, RowsOf, no_visit, of_another, and_row}
use Rattle.dcm_tree_laws.specs.Rows.{Visit, noted}
use Rattle.dcm_tree_laws.specs.Status.{greatest, IsDone, StatusIs, StatusSays, StatusSaysOfList}
use Rattle.dcm_tree_laws.specs.Twice.{OfRows}
use Rattle.dcm_tree_laws.proofs.Lists.{lines_do}
use Rattle.dcm_tree_laws.proofs.Noted.{walk_noted, list_noted}
use Rattle.dcm_tree_laws.proofs.Quiet.{IsAny, IsClosed, only_any}
use Rattle.dcm_tree_laws.proofs.RowsBy.{HasRows, no_rows, no_stop, rows_kept, same_manifest, visit_of, visit_rows}
use Rattle.dcm_tree_laws.proofs.Statuses.Going.{GoesOn, list_goes, walk_goes, work_goes}
use Rattle.dcm_tree_laws.proofs.Walks.{VisitsDo, walks_do}

-- ---- the greatest status

greatest_kept : (Old New : Visit → Done → Type 0) (shared : Shared) (keep : (v : Visit) (done : Done) → Old v done → New v done) (visits : List Visit) (text : List ℕ) (rows : RowsOf Old shared visits text)
    → greatest (rows_kept Old New shared keep visits text rows) ≡ greatest rows
unfolding rows_kept
greatest_kept Old New shared keep visits text (no_visit v t) = refl
greatest_kept Old New shared keep visits text (of_another earlier v rows none more) = greatest_kept Old New shared keep earlier text rows
greatest_kept Old New shared keep visits text (and_row earlier rest v done rows share so more is) = ap (λ s. max s (fate_status done.fate)) (greatest_kept Old New shared keep earlier rest rows)

no_most : (a b : ℕ) → max a b ≡ 0 → (a ≡ 0) × (b ≡ 0)
no_most a b is = (omega arith, omega arith)

most_none : (a b : ℕ) → a ≡ 0 → b ≡ 0 → max a b ≡ 0
most_none a b one other = omega arith

each_of : {IsSo : Visit → Done → Type 0} {shared : Shared} (visits : List Visit) (text : List ℕ) (rows : RowsOf IsSo shared visits text) → greatest rows ≡ DONE → OfRows IsDone rows
each_of visits text (no_visit v t) is = tt
each_of visits text (of_another earlier v rows none more) is = each_of earlier text rows is
each_of visits text (and_row earlier rest v done rows share so more same) is =
    let both : (greatest rows ≡ 0) × (fate_status done.fate ≡ 0) = no_most (greatest rows) (fate_status done.fate) is in
    (both.1, each_of earlier rest rows both.0)

of_each : {IsSo : Visit → Done → Type 0} {shared : Shared} (visits : List Visit) (text : List ℕ) (rows : RowsOf IsSo shared visits text) → OfRows IsDone rows → greatest rows ≡ DONE
of_each visits text (no_visit v t) each = refl
of_each visits text (of_another earlier v rows none more) each = of_each earlier text rows each
of_each visits text (and_row earlier rest v done rows share so more same) each = most_none (greatest rows) (fate_status done.fate) (of_each earlier rest rows each.1) each.0

-- ---- whether a name came

abbrev is_none : List Visit → Bool
is_none [] = true
is_none (v ∷ visits) = false

none_behind : (earlier : List Visit) (v : Visit) → is_none (earlier ++ v ∷ []) ≡ false
none_behind [] v = refl
none_behind (u ∷ earlier) v = refl

none_is : (visits : List Visit) → is_none visits ≡ false → visits ≢ []
none_is [] is = λ e. absurd (cc)
none_is (v ∷ visits) is = λ e. absurd (cc)

some_is : (visits : List Visit) → visits ≢ [] → is_none visits ≡ false
some_is [] some = absurd (some refl)
some_is (v ∷ visits) some = refl

-- ---- the rows so far, with their status

record HasStatus {W : Type 0} (m : Writer W) (IsSo : Visit → Done → Type 0) (shared : Shared) (headed : W) (visits : List Visit) (p : Progress W) : Type 0 where
  rows : HasRows m IsSo shared headed visits p.manifest
  status_is : p.status ≡ greatest rows.rows
  came_is : p.is_empty ≡ is_none visits

module _ {S I O F W E : Type 0} (w : World S I O F E) (m : Writer W) (shared : Shared) (headed : W) (IsSo : Visit → Done → Type 0) where
  abbrev Has : List Visit → Progress W → Type 0
  Has visits p = HasStatus m IsSo shared headed visits p

  came : (from to : Progress W) (earlier visits : List Visit) (v : Visit) → visits ≡ earlier ++ v ∷ [] → to.is_empty ≡ false → to.is_empty ≡ is_none visits
  came from to earlier visits v more is = is ∙ sym (none_behind earlier v) ∙ sym (ap is_none more)

  visit_status : (from : Progress W) (told_before : E) (before : S) (n : Named) (what : What) (r : Result (Unit {0}) Stopped) (to : Progress W) (told : E) (after : S)
      (make : (done : Done) (mid : E) → DoesName w (manner_of shared.manner) n what told_before before (Ok done) mid after → IsSo (visit_of n what) done)
      (earlier visits : List Visit) → visits ≡ earlier ++ visit_of n what ∷ [] → VisitsName w m shared from told_before before n what r to told after → to.stop ≡ None
      → (from.stop ≡ None → Has earlier from) → Has visits to
  unfolding visit_rows rows_kept
  visit_status from told_before before n what r to told after make earlier visits more (spec.of_another none is t same ok) stop had =
      let was : Has earlier from = had (sym (ap (λ p. p.stop) is) ∙ stop) in
      record {
        rows = visit_rows w m shared headed IsSo IsSo (λ v done so. so) from told_before before n what r to told after make earlier visits more (spec.of_another none is t same ok) stop (λ e. was.rows);
        status_is = ap (λ p. p.status) is ∙ was.status_is ∙ sym (greatest_kept IsSo IsSo shared (λ v done so. so) earlier was.rows.text was.rows.rows);
        came_is = came from to earlier visits (visit_of n what) more (ap (λ p. p.is_empty) is);
      }
  visit_status from told_before before n what r to told after make earlier visits more (spec.was_done done mid share does (spec.has_row manifest puts reports is ok)) stop had =
      let was : Has earlier from = had (sym (ap (λ p. p.stop) is) ∙ stop) in
      record {
        rows = visit_rows w m shared headed IsSo IsSo (λ v d so. so) from told_before before n what r to told after make earlier visits more (spec.was_done done mid share does (spec.has_row manifest puts reports is ok)) stop (λ e. was.rows);
        status_is = ap (λ p. p.status) is ∙ ap (λ s. max s (fate_status done.fate)) (was.status_is ∙ sym (greatest_kept IsSo IsSo shared (λ v d so. so) earlier was.rows.text was.rows.rows));
        came_is = came from to earlier visits (visit_of n what) more (ap (λ p. p.is_empty) is);
      }
  visit_status from told_before before n what r to told after make earlier visits more (spec.was_done done mid share does (spec.no_row manifest failure s puts t is ok)) stop had =
      absurd (no_stop to.stop _ (ap (λ p. p.stop) is) stop)
  visit_status from told_before before n what r to told after make earlier visits more (spec.ends_run p s share does is ok) stop had = absurd (no_stop to.stop _ (ap (λ q. q.stop) is) stop)

-- ---- all of them

record Good {S I O F W E : Type 0} (w : World S I O F E) (m : Writer W) (shared : Shared) (headed : W) (x : (Work W × E) × List Visit) : Type 0 where
  same : x.0.0.shared ≡ shared
  rows : x.0.0.stop ≡ None → HasStatus m (Became w shared) shared headed x.1 (progress x.0.0)

abbrev StaysGood : {S I O F W E : Type 0} → World S I O F E → Writer W → Shared → W → ((Work W × E) × List Visit) → S → ((Work W × E) × List Visit) → S → Type 0
StaysGood w m shared headed a s b t = Good w m shared headed a → Good w m shared headed b

closed : {S I O F W E : Type 0} (w : World S I O F E) (m : Writer W) (shared : Shared) (headed : W) → IsClosed IsAny (StaysGood w m shared headed)
closed w m shared headed = record {
  none = λ v s t e good. good;
  still = λ v s t e good. good;
  then = λ a b c s t u first second good. second (first good);
}

visits_good : {S I O F W E : Type 0} (w : World S I O F E) (m : Writer W) (shared : Shared) (headed : W) → VisitsDo (StaysGood w m shared headed) (noted (visits_of w m))
visits_good w m shared headed from before n what r to after v good = record {
  same = v.0.1 ∙ good.same;
  rows = λ stop. subst (λ (s : Shared). HasStatus m (Became w s) s headed to.1 (progress to.0.0)) good.same
      (visit_status w m from.0.0.shared headed (Became w from.0.0.shared) _ from.0.1 before n what r _ to.0.1 after
      (λ done mid does. record { from = from.0.1; to = mid; before = before; after = after; does = does }) from.1 to.1 v.1 v.0.0 stop
      (λ none. subst (λ (s : Shared). HasStatus m (Became w s) s headed from.1 (progress from.0.0)) (sym good.same) (good.rows none)));
}

first : {S I O F W E : Type 0} (w : World S I O F E) (m : Writer W) (headed : W) (start : Work W) (from : E) → progress start ≡ spec.nothing_done headed → Good w m start.shared headed ((start, from), [])
unfolding no_rows
first w m headed start from is = record {
  same = refl;
  rows = λ none. record {
    rows = no_rows m (Became w start.shared) start.shared headed start.manifest (ap (λ p. p.manifest) is);
    status_is = ap (λ p. p.status) is;
    came_is = ap (λ p. p.is_empty) is;
  };
}

-- ---- the status

not_whole : (stop : Stop) (empty : Bool) (most : ℕ) → max (end_status (WasStopped stop) empty) most ≢ DONE
not_whole stops.Manifest empty most = λ is. absurd (omega arith)
not_whole stops.PartThere empty most = λ is. absurd (omega arith)
not_whole stops.Memory empty most = λ is. absurd (omega arith)

whole_only : (end : End) (empty : Bool) → end_status end empty ≡ DONE → (end ≡ Whole) × (empty ≡ false)
whole_only Whole true is = absurd (omega arith)
whole_only Whole false is = (refl, refl)
whole_only (Unread count) empty is = absurd (omega arith)
whole_only (WasStopped stops.Manifest) empty is = absurd (omega arith)
whole_only (WasStopped stops.PartThere) empty is = absurd (omega arith)
whole_only (WasStopped stops.Memory) empty is = absurd (omega arith)

only_whole : (end : End) (empty : Bool) → end ≡ Whole → empty ≡ false → end_status end empty ≡ DONE
only_whole end empty whole came = ap (λ e. end_status e empty) whole ∙ ap (end_status Whole) came

status_of : {S I O F W E : Type 0} (w : World S I O F E) (m : Writer W) (shared : Shared) (headed : W) (status : ℕ) (end : End) (visits : List Visit) (last : Progress W)
    → (has : HasStatus m (Became w shared) shared headed visits last) → status ≡ max (end_status end last.is_empty) last.status → StatusIs status end visits has.rows.rows
status_of w m shared headed status end visits last has is =
    let both : status ≡ DONE → (end_status end last.is_empty ≡ 0) × (last.status ≡ 0) = λ done. no_most (end_status end last.is_empty) last.status (sym is ∙ done) in
    record {
      is_whole = λ done. (whole_only end last.is_empty (both done).0).0;
      came = λ done. none_is visits (sym has.came_is ∙ (whole_only end last.is_empty (both done).0).1);
      each_done = λ done. each_of visits has.rows.text has.rows.rows (sym has.status_is ∙ (both done).1);
      only = λ whole some each. is ∙ most_none (end_status end last.is_empty) last.status (only_whole end last.is_empty whole (has.came_is ∙ some_is visits some))
          (has.status_is ∙ of_each visits has.rows.text has.rows.rows each);
    }

stopped_by : (stop : Option Stop) (why : Stop) → stop ≡ Some why → end_by stop ≡ WasStopped why
stopped_by stop why is = ap end_by is

early_of : (walked : Result ListEnd Stopped) (stop : Option Stop) (why : Stop) (empty : Bool) (most status : ℕ) → stop ≡ Some why → ((end : ListEnd) → walked ≡ Ok end → stop ≡ None)
    → status ≡ max (end_status (end_of walked stop) empty) most → status ≢ DONE
early_of (Ok end) stop why empty most status is goes says = λ done. absurd (no_stop stop why is (goes end refl))
early_of (Err e) stop why empty most status is goes says =
    λ done. not_whole why empty most (ap (λ (s : Option Stop). max (end_status (end_by s) empty) most) (sym is) ∙ sym says ∙ done)

-- ---- runs

ok_of : (walked : Result (Unit {0}) Stopped) (end : ListEnd) → as_list walked ≡ Ok end → walked ≡ Ok _
ok_of (Ok x) end is = refl
ok_of (Err e) end is = absurd (cc)

pub status_says : {S I O F W E : Type 0} (w : World S I O F E) (m : Writer W) → StatusSays w m
status_says w m run path begun opened headed from before status left to after v =
    let walk = walk_noted w.folders (visits_of w m) path begun.number opened (v.start, from) before v.walked (v.last, v.told) after v.walks [] in
    let good : Good w m v.start.shared headed ((v.last, v.told), walk.0) =
    walks_do w.folders (only_any w.folders) (StaysGood w m v.start.shared headed) (closed w m v.start.shared headed) (noted (visits_of w m)) (visits_good w m v.start.shared headed) path begun.number opened
    ((v.start, from), []) before v.walked ((v.last, v.told), walk.0) after walk.1 (first w m headed v.start from v.begins.nothing) in
    let starts : GoesOn (v.start, from) = ap (λ p. p.stop) v.begins.nothing in
    record {
      early = λ why is. early_of (as_list v.walked) v.last.stop why v.last.is_empty v.last.status status is
          (λ end ok. walk_goes w.folders (visits_of w m) GoesOn (work_goes w m) path begun.number opened (v.start, from) before _ (v.last, v.told) after starts
          (subst (λ (r : Result (Unit {0}) Stopped). WalksFolder w.folders (visits_of w m) path begun.number opened (v.start, from) before r (v.last, v.told) after) (ok_of v.walked end ok) v.walks)) v.ends.status_is;
      has = λ none. record {
        visits = walk.0;
        text = (good.rows none).rows.text;
        walks = walk.1;
        rows = (good.rows none).rows.rows;
        manifest = same_manifest m left v.last.manifest headed (good.rows none).rows.text v.left_is (good.rows none).rows.manifest_is;
      };
      says = λ none. status_of w m v.start.shared headed status (end_of (as_list v.walked) v.last.stop) walk.0 (progress v.last) (good.rows none) v.ends.status_is;
    }

pub status_says_of_list : {S I O F W E : Type 0} (w : World S I O F E) (m : Writer W) → StatusSaysOfList w m
status_says_of_list w m run list begun input headed from before status left to after read v =
    let walk = list_noted w.folders (visits_of w m) w.reader.gets begun.number (v.start, from) before input v.walked (v.last, v.told) after read v.walks [] in
    let good : Good w m v.start.shared headed ((v.last, v.told), walk.0) =
    lines_do w.folders (only_any w.folders) (StaysGood w m v.start.shared headed) (closed w m v.start.shared headed) (noted (visits_of w m)) (visits_good w m v.start.shared headed) w.reader.gets begun.number
    ((v.start, from), []) before input v.walked ((v.last, v.told), walk.0) after read walk.1 (first w m headed v.start from v.begins.nothing) in
    let starts : GoesOn (v.start, from) = ap (λ p. p.stop) v.begins.nothing in
    record {
      early = λ why is. early_of v.walked v.last.stop why v.last.is_empty v.last.status status is
          (λ end ok. list_goes w.folders (visits_of w m) GoesOn (work_goes w m) w.reader.gets begun.number (v.start, from) before input end (v.last, v.told) after read starts
          (subst (λ (r : Result ListEnd Stopped). WalksList w.folders (visits_of w m) w.reader.gets begun.number (v.start, from) before input r (v.last, v.told) after read) ok v.walks)) v.ends.status_is;
      has = λ none. record {
        visits = walk.0;
        text = (good.rows none).rows.text;
        walks = walk.1;
        rows = (good.rows none).rows.rows;
        manifest = same_manifest m left v.last.manifest headed (good.rows none).rows.text v.left_is (good.rows none).rows.manifest_is;
      };
      says = λ none. status_of w m v.start.shared headed status (end_of v.walked v.last.stop) walk.0 (progress v.last) (good.rows none) v.ends.status_is;
    }
