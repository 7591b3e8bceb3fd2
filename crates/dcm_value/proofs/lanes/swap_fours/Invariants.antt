use Rattle.std.proofs.Common.{◌≡◌, ◌*◌}
use Rattle.dcm_value.proofs.UnitOrder.Reversals.{units_reversed}
use Rattle.dcm_value.proofs.lanes.swap_fours.Given as goal

abbrev pub invariant-loop-block : goal.invariant-loop-block
invariant-loop-block l = l.bytes ≡ units_reversed 4 (4 * l.block) l.fn.bytes
