use lib.Ieee.{nan_bits}
use Rattle.dcm_table.proofs.NumberParts.{nan_then, nan_else}
use Rattle.dcm_table.proofs.numbers.is_nan_single.Goals as goal

pub returns-then-bits-eq-ONES_SINGLE : goal.returns-then-bits-eq-ONES_SINGLE
unfolding nan_bits
returns-then-bits-eq-ONES_SINGLE c = nan_then _ _ _ _ c.if-bits-eq-ONES_SINGLE.true

pub returns-else-bits-eq-ONES_SINGLE : goal.returns-else-bits-eq-ONES_SINGLE
unfolding nan_bits
returns-else-bits-eq-ONES_SINGLE c = nan_else _ _ _ c.if-bits-eq-ONES_SINGLE.false
