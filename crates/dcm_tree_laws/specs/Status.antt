-- The exit status of a run that visits its names.
use Rattle.std.specs.Prelude.{◌≡◌, ◌≢◌, ℕ, max, List, [], Some, None}
use Rattle.dcm_devices.specs.Writing.{Writer}
use Rattle.dcm_cli.specs.Status.{DONE}
use Rattle.dcm_trees.specs.declared.beginning.Begun.{Begun}
use Rattle.dcm_trees.specs.declared.file.Done.{Done}
use Rattle.dcm_trees.specs.declared.progress.Shared.{Shared}
use Rattle.dcm_trees.specs.declared.progress.Stop.{Stop}
use Rattle.dcm_trees.specs.declared.run.End.{End}
use Rattle.dcm_trees.specs.declared.run.End.TheVariants.{Whole}
use Rattle.dcm_trees.specs.declared.run.TreeRun.{TreeRun}
use Rattle.dcm_trees.specs.Fate.{status as fate_status}
use Rattle.dcm_trees.specs.Run.{end_of}
use Rattle.dcm_trees.specs.Tree.{VisitsAll, VisitsListed, as_list}
use Rattle.dcm_trees.specs.World.{World}
use Rattle.dcm_tree_laws.specs.OneRow.{RowsOf, no_visit, of_another, and_row, FolderHasRows, ListHasRows}
use Rattle.dcm_tree_laws.specs.Rows.{Visit}
use Rattle.dcm_tree_laws.specs.Twice.{OfRows}

-- the greatest status of some rows
abbrev pub greatest : {IsSo : Visit → Done → Type 0} {shared : Shared} {visits : List Visit} {text : List ℕ}
    → RowsOf IsSo shared visits text → ℕ
greatest (no_visit v t) = DONE
greatest (of_another earlier v rows none more) = greatest rows
greatest (and_row earlier rest v done rows share so more is) = max (greatest rows) (fate_status done.fate)

-- its name is done: its output was written whole or was there, or it is the index of a medium
abbrev pub IsDone : Visit → Done → Type 0
IsDone v done = fate_status done.fate ≡ DONE

-- the status is 0 exactly where the names were visited to the last one, some name came, and each row says that its name
-- is done
pub record StatusIs {IsSo : Visit → Done → Type 0} {shared : Shared} {text : List ℕ} (status : ℕ) (end : End)
    (visits : List Visit) (rows : RowsOf IsSo shared visits text) : Type 0 where
  pub is_whole : status ≡ DONE → end ≡ Whole
  pub came : status ≡ DONE → visits ≢ []
  pub each_done : status ≡ DONE → OfRows IsDone rows
  pub only : end ≡ Whole → visits ≢ [] → OfRows IsDone rows → status ≡ DONE

-- so it is of a run over a folder. One that ends before its last name has another status
pub record FolderSays {S I O F W E : Type 0} (w : World S I O F E) (m : Writer W) (run : TreeRun) (path : List ℕ)
    (begun : Begun) (opened : F) (headed : W) (from : E) (before : S) (status : ℕ) (left : W) (to : E) (after : S)
    (v : VisitsAll w m run path begun opened headed from before status left to after) : Type 0 where
  pub early : (why : Stop) → v.last.stop ≡ Some why → status ≢ DONE
  pub has : v.last.stop ≡ None → FolderHasRows w m run path begun opened headed from before status left to after v
  pub says : (none : v.last.stop ≡ None)
      → StatusIs status (end_of (as_list v.walked) v.last.stop) (has none).visits (has none).rows

-- and of a run over a list
pub record ListSays {S I O F W E : Type 0} (w : World S I O F E) (m : Writer W) (run : TreeRun) (list : List ℕ)
    (begun : Begun) (input : I) (headed : W) (from : E) (before : S) (status : ℕ) (left : W) (to : E) (after : S)
    (read : I) (v : VisitsListed w m run list begun input headed from before status left to after read)
    : Type 0 where
  pub early : (why : Stop) → v.last.stop ≡ Some why → status ≢ DONE
  pub has : v.last.stop ≡ None → ListHasRows w m run list begun input headed from before status left to after read v
  pub says : (none : v.last.stop ≡ None)
      → StatusIs status (end_of v.walked v.last.stop) (has none).visits (has none).rows

abbrev pub StatusSays : {S I O F W E : Type 0} → World S I O F E → Writer W → Type 0
StatusSays {S} {I} {O} {F} {W} {E} w m =
    (run : TreeRun) (path : List ℕ) (begun : Begun) (opened : F) (headed : W) (from : E) (before : S) (status : ℕ)
    (left : W) (to : E) (after : S)
    → (v : VisitsAll w m run path begun opened headed from before status left to after)
    → FolderSays w m run path begun opened headed from before status left to after v

abbrev pub StatusSaysOfList : {S I O F W E : Type 0} → World S I O F E → Writer W → Type 0
StatusSaysOfList {S} {I} {O} {F} {W} {E} w m =
    (run : TreeRun) (list : List ℕ) (begun : Begun) (input : I) (headed : W) (from : E) (before : S) (status : ℕ)
    (left : W) (to : E) (after : S) (read : I)
    → (v : VisitsListed w m run list begun input headed from before status left to after read)
    → ListSays w m run list begun input headed from before status left to after read v
