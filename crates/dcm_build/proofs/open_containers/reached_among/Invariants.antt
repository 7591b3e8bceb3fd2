use Rattle.std.proofs.Common.{◌≡◌, ◌≤◌, length, reverse}
use Rattle.dcm_build.specs.OpenContainers as spec
use Rattle.dcm_build.proofs.open_containers.reached_among.Given as goal

-- the containers that are left have reached what all of them have
abbrev pub invariant-loop-rest : goal.invariant-loop-rest
invariant-loop-rest l = record {
  same : spec.reached_in l.top (reverse l.outermost_first) ≡ spec.reached_in l.top (reverse l.rest);
  few : length l.rest ≤ length l.outermost_first;
}

abbrev pub decreases-loop-rest : goal.decreases-loop-rest
decreases-loop-rest l = length l.rest
