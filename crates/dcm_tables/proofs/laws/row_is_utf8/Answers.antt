use Rattle.dcm_tables.proofs.RowBytes.{rows_valid}
use Rattle.dcm_tables.proofs.laws.row_is_utf8.Goals as goal

pub returns : goal.returns
returns c = rows_valid
