use Rattle.dcm_tables.proofs.OneRow.{one_row}
use Rattle.dcm_tables.proofs.laws.row_is_one.Goals as goal

pub returns : goal.returns
returns c = one_row
