-- The manifest has a row for each name of a run's share that it visits.
use Rattle.std.proofs.Common.{◌≡◌, ◌∙◌, refl, sym, ap, subst, ℕ, List, [], ◌∷◌, ◌++◌, Option, Some, None, Result, Ok}
use Rattle.std.specs.Io.KnownBytes.{append_known}
use Rattle.dcm_lemmas.proofs.Options.{known_nothing, known_twice}
use Rattle.dcm_devices.specs.Writing.{Writer}
use Rattle.dcm_walk.specs.Visits.{Named}
use Rattle.dcm_walk.specs.declared.visitor.Stopped.{Stopped}
use Rattle.dcm_walk.specs.declared.visitor.What.{What}
use Rattle.dcm_trees.specs.declared.file.Done.{Done}
use Rattle.dcm_trees.specs.declared.progress.Shared.{Shared}
use Rattle.dcm_trees.specs.declared.progress.Stop.{Stop}
use Rattle.dcm_trees.specs.declared.progress.Work.{Work}
use Rattle.dcm_trees.specs.Fate.{word}
use Rattle.dcm_trees.specs.Work as spec
use Rattle.dcm_trees.specs.Work.{Progress, PutsRow, VisitsName, row, output_of, visits_of}
use Rattle.dcm_trees.specs.File.{DoesName}
use Rattle.dcm_trees.specs.Manner.{manner_of}
use Rattle.dcm_trees.specs.World.{World}
use Rattle.dcm_tree_laws.specs.Rows.{Visit, noted}
use Rattle.dcm_tree_laws.specs.OneRow.{Became, RowsOf, no_visit, of_another, and_row, OneRow, OneRowOfList}
use Rattle.dcm_tree_laws.proofs.Lists.{lines_do}
use Rattle.dcm_tree_laws.proofs.Noted.{walk_noted, list_noted}
use Rattle.dcm_tree_laws.proofs.Quiet.{IsAny, IsClosed, only_any}
use Rattle.dcm_tree_laws.proofs.Walks.{VisitsDo, walks_do}

-- ---- the rows so far

-- the manifest has the rows of these visits
pub record HasRows {W : Type 0} (m : Writer W) (IsSo : Visit → Done → Type 0) (shared : Shared) (headed : W) (visits : List Visit) (manifest : W) : Type 0 where
  pub text : List ℕ
  pub rows : RowsOf IsSo shared visits text
  pub manifest_is : m.contents manifest ≡ append_known (m.contents headed) text

abbrev pub visit_of : Named → What → Visit
visit_of n what = record { named = n; what = what }

pub went_out : {W : Type 0} (m : Writer W) (text : List ℕ) (from to : W) → PutsRow m text from (Ok _) to → m.contents to ≡ append_known (m.contents from) text
went_out m text from to (spec.put contents failed flushed is) = contents
went_out m text from to (spec.not_put e front failed is) = absurd (cc)
went_out m text from to (spec.not_flushed e contents failed room is) = absurd (cc)

pub no_stop : (stop : Option Stop) (why : Stop) → stop ≡ Some why → stop ≡ None → ⊥
no_stop stop why is none = absurd (cc)

pub same_manifest : {W : Type 0} (m : Writer W) (a b headed : W) (text : List ℕ) → a ≡ b → m.contents b ≡ append_known (m.contents headed) text → m.contents a ≡ append_known (m.contents headed) text
same_manifest m a b headed text e is = ap m.contents e ∙ is

pub one_more : {W : Type 0} (m : Writer W) (from to headed : W) (rows text : List ℕ) → m.contents to ≡ append_known (m.contents from) text → m.contents from ≡ append_known (m.contents headed) rows
    → m.contents to ≡ append_known (m.contents headed) (rows ++ text)
one_more m from to headed rows text put is = put ∙ ap (λ (known : Option (List ℕ)). append_known known text) is ∙ known_twice (m.contents headed) rows text

-- ---- a visit

unfoldable pub rows_kept : (Old New : Visit → Done → Type 0) (shared : Shared) (keep : (v : Visit) (done : Done) → Old v done → New v done) (visits : List Visit) (text : List ℕ) → RowsOf Old shared visits text → RowsOf New shared visits text
rows_kept Old New shared keep visits text (no_visit v t) = no_visit v t
rows_kept Old New shared keep visits text (of_another earlier v rows none more) = of_another earlier v (rows_kept Old New shared keep earlier text rows) none more
rows_kept Old New shared keep visits text (and_row earlier rest v done rows share so more is) = and_row earlier rest v done (rows_kept Old New shared keep earlier rest rows) share (keep v done so) more is

unfoldable pub visit_rows : {S I O F W E : Type 0} (w : World S I O F E) (m : Writer W) (shared : Shared) (headed : W) (Old New : Visit → Done → Type 0) (keep : (v : Visit) (done : Done) → Old v done → New v done)
    (from : Progress W) (told_before : E) (before : S) (n : Named) (what : What) (r : Result (Unit {0}) Stopped) (to : Progress W) (told : E) (after : S)
    (make : (done : Done) (mid : E) → DoesName w (manner_of shared.manner) n what told_before before (Ok done) mid after → New (visit_of n what) done)
    (earlier visits : List Visit) → visits ≡ earlier ++ visit_of n what ∷ [] → VisitsName w m shared from told_before before n what r to told after → to.stop ≡ None
    → (from.stop ≡ None → HasRows m Old shared headed earlier from.manifest) → HasRows m New shared headed visits to.manifest
visit_rows w m shared headed Old New keep from told_before before n what r to told after make earlier visits more (spec.of_another none is t same ok) stop had =
    let rows : HasRows m Old shared headed earlier from.manifest = had (sym (ap (λ p. p.stop) is) ∙ stop) in
    record {
      text = rows.text;
      rows = of_another earlier (visit_of n what) (rows_kept Old New shared keep earlier rows.text rows.rows) none more;
      manifest_is = same_manifest m to.manifest from.manifest headed rows.text (ap (λ p. p.manifest) is) rows.manifest_is;
    }
visit_rows w m shared headed Old New keep from told_before before n what r to told after make earlier visits more (spec.was_done done mid share does (spec.has_row manifest puts reports is ok)) stop had =
    let rows : HasRows m Old shared headed earlier from.manifest = had (sym (ap (λ p. p.stop) is) ∙ stop) in
    let text : List ℕ = row n.name (output_of n done) (word done.fate) in
    record {
      text = rows.text ++ text;
      rows = and_row earlier rows.text (visit_of n what) done (rows_kept Old New shared keep earlier rows.text rows.rows) share (make done mid does) more refl;
      manifest_is = same_manifest m to.manifest manifest headed (rows.text ++ text) (ap (λ p. p.manifest) is)
          (one_more m from.manifest manifest headed rows.text text (went_out m text from.manifest manifest puts) rows.manifest_is);
    }
visit_rows w m shared headed Old New keep from told_before before n what r to told after make earlier visits more (spec.was_done done mid share does (spec.no_row manifest failure s puts t is ok)) stop had =
    absurd (no_stop to.stop _ (ap (λ p. p.stop) is) stop)
visit_rows w m shared headed Old New keep from told_before before n what r to told after make earlier visits more (spec.ends_run p s share does is ok) stop had = absurd (no_stop to.stop _ (ap (λ q. q.stop) is) stop)

pub no_manifest : {W : Type 0} (m : Writer W) (start headed : W) → start ≡ headed → m.contents start ≡ append_known (m.contents headed) []
no_manifest m start headed is = same_manifest m start headed headed [] is (sym (known_nothing (m.contents headed)))

unfoldable pub no_rows : {W : Type 0} (m : Writer W) (IsSo : Visit → Done → Type 0) (shared : Shared) (headed start : W) → start ≡ headed → HasRows m IsSo shared headed [] start
no_rows m IsSo shared headed start is = record { text = []; rows = no_visit refl refl; manifest_is = no_manifest m start headed is }

-- ---- all of them

pub record Good {S I O F W E : Type 0} (w : World S I O F E) (m : Writer W) (shared : Shared) (headed : W) (x : (Work W × E) × List Visit) : Type 0 where
  pub same : x.0.0.shared ≡ shared
  pub rows : x.0.0.stop ≡ None → HasRows m (Became w shared) shared headed x.1 x.0.0.manifest

abbrev StaysGood : {S I O F W E : Type 0} → World S I O F E → Writer W → Shared → W → ((Work W × E) × List Visit) → S → ((Work W × E) × List Visit) → S → Type 0
StaysGood w m shared headed a s b t = Good w m shared headed a → Good w m shared headed b

closed : {S I O F W E : Type 0} (w : World S I O F E) (m : Writer W) (shared : Shared) (headed : W) → IsClosed IsAny (StaysGood w m shared headed)
closed w m shared headed = record {
  none = λ v s t e good. good;
  still = λ v s t e good. good;
  then = λ a b c s t u first second good. second (first good);
}

visits_good : {S I O F W E : Type 0} (w : World S I O F E) (m : Writer W) (shared : Shared) (headed : W) → VisitsDo (StaysGood w m shared headed) (noted (visits_of w m))
visits_good w m shared headed from before n what r to after v good = record {
  same = v.0.1 ∙ good.same;
  rows = λ stop. subst (λ (s : Shared). HasRows m (Became w s) s headed to.1 to.0.0.manifest) good.same
      (visit_rows w m from.0.0.shared headed (Became w from.0.0.shared) (Became w from.0.0.shared) (λ x done b. b) _ from.0.1 before n what r _ to.0.1 after
      (λ done mid does. record { from = from.0.1; to = mid; before = before; after = after; does = does }) from.1 to.1 v.1 v.0.0 stop
      (λ none. subst (λ (s : Shared). HasRows m (Became w s) s headed from.1 from.0.0.manifest) (sym good.same) (good.rows none)));
}

first : {S I O F W E : Type 0} (w : World S I O F E) (m : Writer W) (headed : W) (start : Work W) (from : E) → start.manifest ≡ headed → Good w m start.shared headed ((start, from), [])
first w m headed start from is = record { same = refl; rows = λ none. no_rows m (Became w start.shared) start.shared headed start.manifest is }

pub one_row : {S I O F W E : Type 0} (w : World S I O F E) (m : Writer W) → OneRow w m
one_row w m run path begun opened headed from before status left to after v stop =
    let walk = walk_noted w.folders (visits_of w m) path begun.number opened (v.start, from) before v.walked (v.last, v.told) after v.walks [] in
    let good : Good w m v.start.shared headed ((v.last, v.told), walk.0) =
    walks_do w.folders (only_any w.folders) (StaysGood w m v.start.shared headed) (closed w m v.start.shared headed) (noted (visits_of w m)) (visits_good w m v.start.shared headed) path begun.number opened
    ((v.start, from), []) before v.walked ((v.last, v.told), walk.0) after walk.1 (first w m headed v.start from (ap (λ p. p.manifest) v.begins.nothing)) in
    let rows : HasRows m (Became w v.start.shared) v.start.shared headed walk.0 v.last.manifest = good.rows stop in
    record {
      visits = walk.0;
      text = rows.text;
      walks = walk.1;
      rows = rows.rows;
      manifest = same_manifest m left v.last.manifest headed rows.text v.left_is rows.manifest_is;
    }

pub one_row_of_list : {S I O F W E : Type 0} (w : World S I O F E) (m : Writer W) → OneRowOfList w m
one_row_of_list w m run list begun input headed from before status left to after read v stop =
    let walk = list_noted w.folders (visits_of w m) w.reader.gets begun.number (v.start, from) before input v.walked (v.last, v.told) after read v.walks [] in
    let good : Good w m v.start.shared headed ((v.last, v.told), walk.0) =
    lines_do w.folders (only_any w.folders) (StaysGood w m v.start.shared headed) (closed w m v.start.shared headed) (noted (visits_of w m)) (visits_good w m v.start.shared headed) w.reader.gets begun.number
    ((v.start, from), []) before input v.walked ((v.last, v.told), walk.0) after read walk.1 (first w m headed v.start from (ap (λ p. p.manifest) v.begins.nothing)) in
    let rows : HasRows m (Became w v.start.shared) v.start.shared headed walk.0 v.last.manifest = good.rows stop in
    record {
      visits = walk.0;
      text = rows.text;
      walks = walk.1;
      rows = rows.rows;
      manifest = same_manifest m left v.last.manifest headed rows.text v.left_is rows.manifest_is;
    }
