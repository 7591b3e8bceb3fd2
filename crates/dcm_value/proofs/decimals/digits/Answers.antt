use Rattle.std.proofs.Common.{arith}
use Rattle.itoa.proofs.Decimal.{length_four}
use Rattle.dcm_value.proofs.UnitOrder.Decimals.{digits_fit}
use Rattle.dcm_value.proofs.decimals.digits.Goals as goal

pub overflow_add-digits : goal.overflow_add-digits
overflow_add-digits c = omega (arith, digits_fit c.args.number c.ranges.number.fits)

pub loop-left-preserved : goal.loop-left-preserved
loop-left-preserved c = omega (arith, length_four c.loop-left.left c.loop-left-test.true c.loop-left.auto.left-fits.fits)

pub overflow_add-result : goal.overflow_add-result
overflow_add-result c = omega (arith, digits_fit c.args.number c.ranges.number.fits)
