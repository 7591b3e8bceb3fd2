use Rattle.std.proofs.Common.{◌≡◌, length}
use Rattle.dcm_base.specs.Lines.Line.{begins as leads}
use Rattle.dcm_build.proofs.line.begins.Given as goal

-- what was passed is the same on both sides
abbrev pub invariant-loop-wanted : goal.invariant-loop-wanted
invariant-loop-wanted l = leads l.text l.bytes ≡ leads l.wanted l.left

abbrev pub decreases-loop-wanted : goal.decreases-loop-wanted
decreases-loop-wanted l = length l.wanted
