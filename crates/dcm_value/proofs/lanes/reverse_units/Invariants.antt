use Rattle.std.proofs.Common.{◌≡◌}
use Rattle.dcm_value.proofs.UnitOrder.Reversals.{units_reversed}
use Rattle.dcm_value.proofs.lanes.reverse_units.Given as goal

abbrev pub invariant-loop-unit : goal.invariant-loop-unit
invariant-loop-unit g l = l.bytes ≡ units_reversed g.row.N l.unit l.fn.bytes
