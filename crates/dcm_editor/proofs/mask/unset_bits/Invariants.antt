use Rattle.std.proofs.Common.{◌≡◌, ◌<◌, ◌≤◌, ℕ, ◌-◌, false}
use Rattle.std.specs.Prelude.{not}
use Rattle.dcm_editor.specs.Masks as masks
use Rattle.dcm_editor.proofs.mask.unset_bits.Given as goal

-- the bits below are those that the mask lacks, and none is set above
abbrev pub invariant-loop-place : goal.invariant-loop-place
invariant-loop-place l = record {
  within : l.place ≤ l.fn.count;
  below : (k : ℕ) → k < l.place → masks.is_set l.bits k ≡ not (masks.is_set l.fn.mask k);
  above : (k : ℕ) → l.place ≤ k → masks.is_set l.bits k ≡ false;
}

abbrev pub decreases-loop-place : goal.decreases-loop-place
decreases-loop-place l = l.fn.count - l.place
