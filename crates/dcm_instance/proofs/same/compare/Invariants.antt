use Rattle.std.proofs.Common.{◌≡◌, ◌≤◌, ◌-◌, ◌^◌, ◌+◌, ℕ, List, length}
use Rattle.dcm_cli.proofs.Passes.Readers.{members}
use Rattle.dcm_instance.specs.Same.{GaveAll}
use Rattle.dcm_instance.proofs.same.compare.Given as goal

-- both gave the same bytes
abbrev pub invariant-loop-compared : goal.invariant-loop-compared
invariant-loop-compared g l = record {
  front : List ℕ;
  first_gave : GaveAll (members g.A.Device g.A.DeviceIn) l.fn.first l.first front;
  second_gave : GaveAll (members g.B.Device g.B.DeviceIn) l.fn.second l.second front;
  count : l.compared ≡ length front;
  within : l.compared ≤ 2 ^ 62 + 262144;
  of_first : length l.of_first ≡ length l.fn.of_first;
  of_second : length l.of_second ≡ length l.fn.of_second;
}

abbrev pub decreases-loop-compared : goal.decreases-loop-compared
decreases-loop-compared g l = (2 ^ 62 + 262144) - l.compared
