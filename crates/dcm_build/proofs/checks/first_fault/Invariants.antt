use Rattle.std.proofs.Common.{◌≡◌, length}
use Rattle.dcm_base.specs.Lines.Build.{first_fault}
use Rattle.dcm_build.proofs.checks.first_fault.Given as goal

-- no check so far fails
abbrev pub invariant-loop-rest : goal.invariant-loop-rest
invariant-loop-rest l = first_fault l.rest ≡ first_fault l.checks

abbrev pub decreases-loop-rest : goal.decreases-loop-rest
decreases-loop-rest l = length l.rest
