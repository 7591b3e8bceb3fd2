-- A run, and a second one over what it left.
use Rattle.std.specs.Prelude.{◌≡◌, ℕ, List, true, false}
use Rattle.dcm_devices.specs.Writing.{Writer}
use Rattle.dcm_walk.specs.declared.visitor.What.TheVariants.{File}
use Rattle.dcm_cli.specs.Calls.{Reader}
use Rattle.dcm_trees.specs.declared.beginning.Begun.{Begun}
use Rattle.dcm_trees.specs.declared.file.Done.{Done}
use Rattle.dcm_trees.specs.declared.progress.Shared.{Shared}
use Rattle.dcm_trees.specs.declared.run.TreeRun.{TreeRun}
use Rattle.dcm_trees.specs.Fate.{is_written}
use Rattle.dcm_trees.specs.File.{is_media_index}
use Rattle.dcm_trees.specs.Tree.{VisitsAll}
use Rattle.dcm_tree_laws.specs.Again.{FolderHasMade, FolderIsStill, over_sure, left_there}
use Rattle.dcm_tree_laws.specs.FileSystem.{FileSystem, Host}
use Rattle.dcm_tree_laws.specs.Laws.{over}
use Rattle.dcm_tree_laws.specs.OneRow.{RowsOf, no_visit, of_another, and_row}
use Rattle.dcm_tree_laws.specs.Rows.{Visit}

-- this is so of what each of these rows says of its name
abbrev pub OfRows : {IsSo : Visit → Done → Type 0} {shared : Shared} {visits : List Visit} {text : List ℕ}
    → (Is : Visit → Done → Type 0) → RowsOf IsSo shared visits text → Type 0
OfRows Is (no_visit v t) = Unit {0}
OfRows Is (of_another earlier v rows none more) = OfRows Is rows
OfRows Is (and_row earlier rest v done rows share so more is) = Is v done × OfRows Is rows

-- the output of a file was written, or left. The index of a medium is set aside
abbrev pub FileIs : (Done → Type 0) → Visit → Done → Type 0
FileIs Is v done = (mode : ℕ) → v.what ≡ File mode → is_media_index v.named.relative ≡ false → Is done

abbrev pub WasWritten : Done → Type 0
WasWritten done = is_written done.fate ≡ true

abbrev pub IsLeftThere : Done → Type 0
IsLeftThere done = done ≡ left_there

-- a second run, and its rows
pub record IsAgain {I O F W E : Type 0} (h : Host I O) (reader : Reader I) (output : Writer O) (m : Writer W)
    (errors : Writer E) (run : TreeRun) (path : List ℕ) (begun : Begun) (opened : F) (headed : W) (from : E)
    (before : FileSystem) (status : ℕ) (left : W) (to : E) (after : FileSystem) : Type 0 where
  pub v : VisitsAll (over_sure {F = F} h reader output errors) m run path begun opened headed from before status left
      to after
  pub has : FolderIsStill h reader output m errors run path begun opened headed from before status left to after v

-- a run wrote the outputs of all files, and a second one, of the same share and into the same folder, visits the same
-- names: it leaves all as it is, and each row of a file in it is `there`
abbrev pub SecondIsStill : {I O W E : Type 0} → (F : Type 0) → Reader I → Writer O → Writer W → Writer E → Type 0
SecondIsStill {I} {O} {W} {E} F reader output m errors =
    (h : Host I O) (first second : TreeRun) (path : List ℕ) (begun again : Begun) (opened reopened : F)
    (headed reheaded : W) (from refrom : E) (before mid after : FileSystem) (status restatus : ℕ) (left releft : W)
    (to reto : E) → second.output.now ≡ first.output.now → second.options.part ≡ first.options.part
    → (v : VisitsAll (over h reader output errors) m first path begun opened headed from before status left to mid)
    → (x : FolderHasMade h reader output m errors first path begun opened headed from before status left to mid v)
    → OfRows (FileIs WasWritten) x.rows
    → (y : IsAgain h reader output m errors second path again reopened reheaded refrom mid restatus releft reto after)
    → y.has.visits ≡ x.visits
    → (after ≡ mid) × OfRows (FileIs IsLeftThere) y.has.rows
