use Rattle.std.proofs.Common.{arith}
use Rattle.dcm_value.proofs.UnitOrder.Numbers.{fits_eight}
use Rattle.dcm_value.proofs.units.number.Goals as goal

pub overflow_mul-number : goal.overflow_mul-number
overflow_mul-number c = omega (arith, fits_eight _ _ c.loop-byte.invariant.small (omega arith))
