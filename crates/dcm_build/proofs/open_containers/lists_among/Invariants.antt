use Rattle.std.proofs.Common.{◌≡◌, ◌≤◌, take, reverse}
use Rattle.dcm_build.specs.OpenContainers as spec
use Rattle.dcm_build.proofs.open_containers.lists_among.Given as goal

-- the lists among the outer containers so far, one at most for each
abbrev pub invariant-loop-container : goal.invariant-loop-container
invariant-loop-container l = record {
  count : l.count ≡ spec.lists_open (reverse (take l.container-index l.outermost_first));
  few : l.count ≤ l.container-index;
}
