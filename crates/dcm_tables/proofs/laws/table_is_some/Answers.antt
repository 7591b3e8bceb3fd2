use Rattle.dcm_tables.proofs.RowsAlike.{some_table}
use Rattle.dcm_tables.proofs.laws.table_is_some.Goals as goal

pub returns : goal.returns
returns c = some_table
