use Rattle.std.proofs.Common.{◌≡◌, length}
use Rattle.dcm_base.specs.Lines.Line.{without_last_spaces as left}
use Rattle.dcm_build.proofs.line.without_last_spaces.Given as goal

-- only spaces were passed
abbrev pub invariant-loop-rest : goal.invariant-loop-rest
invariant-loop-rest l = left l.bytes ≡ left l.rest

abbrev pub decreases-loop-rest : goal.decreases-loop-rest
decreases-loop-rest l = length l.rest
