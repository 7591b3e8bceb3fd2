use Rattle.std.proofs.Common.{◌≡◌, length}
use Rattle.dcm_base.specs.Lines.Line.{without_spaces as left}
use Rattle.dcm_build.proofs.line.past_eights.Given as goal

-- only spaces were passed
abbrev pub invariant-loop-front : goal.invariant-loop-front
invariant-loop-front l = left l.bytes ≡ left l.rest

abbrev pub decreases-loop-front : goal.decreases-loop-front
decreases-loop-front l = length l.rest
