use Rattle.std.proofs.Common.{◌≡◌, length}
use Rattle.dcm_walk.specs.Names.{goes_below}
use Rattle.dcm_walk.proofs.name.leads_below.Given as goal

-- what comes before the rest leads below
abbrev pub invariant-loop-rest : goal.invariant-loop-rest
invariant-loop-rest l = goes_below l.fn.relative ≡ goes_below l.rest

abbrev pub decreases-loop-rest : goal.decreases-loop-rest
decreases-loop-rest l = length l.rest
