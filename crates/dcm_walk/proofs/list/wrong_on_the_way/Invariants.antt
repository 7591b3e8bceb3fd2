use Rattle.std.proofs.Common.{◌-◌, ◌≤◌, length}
use Rattle.dcm_walk.specs.List.{AreOthers}
use Rattle.dcm_walk.proofs.list.wrong_on_the_way.Given as goal

-- nothing is wrong with the folders so far
abbrev pub invariant-loop-length : goal.invariant-loop-length
invariant-loop-length g l = record {
  others : AreOthers g.S.Folders.folders_do l.output l.relative l.fn.system l.at l.system;
  within : l.at ≤ length l.relative;
}

abbrev pub decreases-loop-length : goal.decreases-loop-length
decreases-loop-length g l = length l.relative - l.at
