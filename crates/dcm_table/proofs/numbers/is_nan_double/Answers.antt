use lib.Ieee.{nan_bits}
use Rattle.dcm_table.proofs.NumberParts.{nan_then, nan_else}
use Rattle.dcm_table.proofs.numbers.is_nan_double.Goals as goal

pub returns-then-bits-eq-ONES_DOUBLE : goal.returns-then-bits-eq-ONES_DOUBLE
unfolding nan_bits
returns-then-bits-eq-ONES_DOUBLE c = nan_then _ _ _ _ c.if-bits-eq-ONES_DOUBLE.true

pub returns-else-bits-eq-ONES_DOUBLE : goal.returns-else-bits-eq-ONES_DOUBLE
unfolding nan_bits
returns-else-bits-eq-ONES_DOUBLE c = nan_else _ _ _ c.if-bits-eq-ONES_DOUBLE.false
