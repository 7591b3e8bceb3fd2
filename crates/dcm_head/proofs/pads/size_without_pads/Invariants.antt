use Rattle.std.proofs.Common.{◌≡◌, ◌≤◌, length, take}
use Rattle.dcm_base.specs.Tables.Transfer.{without_pads}
use Rattle.dcm_head.proofs.pads.size_without_pads.Given as goal

abbrev pub invariant-loop-n : goal.invariant-loop-n
invariant-loop-n l = record {
  within : l.n ≤ length l.value;
  same : without_pads l.value ≡ without_pads (take l.n l.value);
}

abbrev pub decreases-loop-n : goal.decreases-loop-n
decreases-loop-n l = l.n
