-- The part is gone after a run over a tree.
use Rattle.std.specs.Prelude.{◌≡◌, ◌≢◌, ◌⊎◌, ℕ, List, false, None}
use Rattle.dcm_devices.specs.Writing.{Writer}
use Rattle.dcm_cli.specs.Calls.{Reader}
use Rattle.dcm_tree_words.specs.Trees.{Source}
use Rattle.dcm_trees.specs.declared.beginning.Begun.{Begun}
use Rattle.dcm_trees.specs.declared.run.TreeRun.{TreeRun}
use Rattle.dcm_trees.specs.Tree.{VisitsAll, VisitsListed, DoesTree}
use Rattle.dcm_tree_laws.specs.FileSystem.{FileSystem, Host, Tree, begins, place_of, at_path}
use Rattle.dcm_tree_laws.specs.Laws.{over, part_path}

-- where no removing of a file failed, none did before, and at the part is what was there
abbrev pub LeavesPart : {I O : Type 0} → Host I O → (part : List ℕ) → (before after : FileSystem) → Type 0
LeavesPart h part before after = after.unremoved ≡ false
    → (before.unremoved ≡ false) × (at_path h after.now part ≡ at_path h before.now part)

-- so it is of the names in a folder, be they done to the last one or not; where a run is begun, nothing is at the part
abbrev pub NoPartLeft : {I O W E : Type 0} → (F : Type 0) → Reader I → Writer O → Writer W → Writer E → Type 0
NoPartLeft {I} {O} {W} {E} F reader output m errors =
    (h : Host I O) (run : TreeRun) (path : List ℕ) (begun : Begun) (opened : F) (headed : W) (from : E)
    (before : FileSystem) (status : ℕ) (left : W) (to : E) (after : FileSystem) → before.written ≡ None
    → begun.part.items ≡ part_path run
    → VisitsAll (over h reader output errors) m run path begun opened headed from before status left to after
    → LeavesPart h (part_path run) before after

-- and of those in a list
abbrev pub NoPartLeftByList : {I O W E : Type 0} → (F : Type 0) → Reader I → Writer O → Writer W → Writer E → Type 0
NoPartLeftByList {I} {O} {W} {E} F reader output m errors =
    (h : Host I O) (run : TreeRun) (list : List ℕ) (begun : Begun) (input : I) (headed : W) (from : E)
    (before : FileSystem) (status : ℕ) (left : W) (to : E) (after : FileSystem) (read : I) → before.written ≡ None
    → begun.part.items ≡ part_path run
    → VisitsListed (over {F = F} h reader output errors) m run list begun input headed from before status left to
    after read
    → LeavesPart h (part_path run) before after

-- or nothing is there, where a part was left over
abbrev pub LeavesNoPart : {I O : Type 0} → Host I O → (part : List ℕ) → (before after : FileSystem) → Type 0
LeavesNoPart h part before after = after.unremoved ≡ false → (before.unremoved ≡ false)
    × ((at_path h after.now part ≡ at_path h before.now part) ⊎ (at_path h after.now part ≡ None))

-- that of a run as a whole, where the part is not at the place of the folder of the outputs itself
abbrev pub NoPartAfterRun : {I O W E : Type 0} → (F : Type 0) → Reader I → Writer O → Writer W → Writer E → Type 0
NoPartAfterRun {I} {O} {W} {E} F reader output rows errors =
    (h : Host I O) (run : TreeRun) (source : Source) (start : Tree) (manifest : W) (from : E) (status : ℕ) (left : W)
    (to : E) (after : FileSystem) → place_of h run.output.now ≢ place_of h (part_path run)
    → DoesTree (over {F = F} h reader output errors) rows run source manifest from (begins start) status left to after
    → LeavesNoPart h (part_path run) (begins start) after
