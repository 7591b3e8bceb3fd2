use Rattle.dcm_tables.proofs.RowsAlike.{one_table}
use Rattle.dcm_tables.proofs.laws.table_is_one.Goals as goal

pub returns : goal.returns
returns c = one_table
