use Rattle.dcm_table.proofs.ValidRows.{row_valid}
use Rattle.dcm_table.proofs.laws.row_is_valid.Goals as goal

pub returns : goal.returns
returns c = λ form name slots text valid named held spelled. row_valid form name slots text valid named held spelled
