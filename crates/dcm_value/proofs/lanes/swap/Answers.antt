use Rattle.std.proofs.Common.{arith}
use Rattle.dcm_value.proofs.UnitOrder.Reversals.{turned-one}
use Rattle.dcm_value.proofs.lanes.swap.Goals as goal

pub returns-in_default : goal.returns-in_default
returns-in_default c = turned-one c.args.unit c.args.bytes.now (omega arith)
