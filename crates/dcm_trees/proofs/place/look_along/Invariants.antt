use Rattle.std.proofs.Common.{◌-◌, ◌≤◌, length}
use Rattle.dcm_trees.specs.Place.{AreFolders}
use Rattle.dcm_trees.proofs.place.look_along.Given as goal

-- the folders so far are there
abbrev pub invariant-loop-length : goal.invariant-loop-length
invariant-loop-length g l = record {
  folders : AreFolders g.S.Folders.folders_do l.path l.base l.fn.system l.at l.system;
  within : l.at ≤ length l.path;
}

abbrev pub decreases-loop-length : goal.decreases-loop-length
decreases-loop-length g l = length l.path - l.at
