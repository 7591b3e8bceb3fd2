use Rattle.std.proofs.Common.{◌-◌, length}
use Rattle.dcm_trees.specs.Beginning.{Climbed}
use Rattle.dcm_trees.proofs.beginning.climb.Given as goal

abbrev pub invariant-loop-other : goal.invariant-loop-other
invariant-loop-other g l = Climbed g.S.Folders.folders_do l.path l.other l.fn.system l.way.items l.first l.last l.has_other l.system

abbrev pub decreases-loop-other : goal.decreases-loop-other
decreases-loop-other g l = 4095 - length l.way.items
