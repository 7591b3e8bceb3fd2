use Rattle.dcm_tables.proofs.SureRows.{row_stays}
use Rattle.dcm_tables.proofs.laws.row_stays.Goals as goal

pub returns : goal.returns
returns c = row_stays
