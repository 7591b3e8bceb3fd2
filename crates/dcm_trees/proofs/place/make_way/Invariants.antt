use Rattle.std.proofs.Common.{◌-◌, ◌≤◌, length}
use Rattle.dcm_trees.specs.Modes.{modes_as}
use Rattle.dcm_trees.specs.Place.{AreMade}
use Rattle.dcm_trees.proofs.place.make_way.Given as goal

-- the folders so far are there
abbrev pub invariant-loop-length : goal.invariant-loop-length
invariant-loop-length g l = record {
  made : AreMade g.S.Folders.folders_do (modes_as l.modes) l.path l.base l.fn.system l.at l.system;
  beyond : l.base ≤ l.at;
  within : l.at ≤ length l.path;
}

abbrev pub decreases-loop-length : goal.decreases-loop-length
decreases-loop-length g l = length l.path - l.at
