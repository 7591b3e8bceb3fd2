use Rattle.std.proofs.Common.{arith}
use Rattle.dcm_value.proofs.ReadBack.DigitTable.{digits_shown}
use Rattle.dcm_value.proofs.units.digits.Goals as goal

pub returns : goal.returns
returns c = digits_shown c.args.byte (omega arith)
