use Rattle.dcm_tables.proofs.OneRow.{some_row}
use Rattle.dcm_tables.proofs.laws.row_is_some.Goals as goal

pub returns : goal.returns
returns c = some_row
