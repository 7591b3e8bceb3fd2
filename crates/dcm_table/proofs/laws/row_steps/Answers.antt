use Rattle.dcm_table.proofs.RowCells.{rows_fill}
use Rattle.dcm_table.proofs.laws.row_steps.Goals as goal

pub returns : goal.returns
returns c = λ greatest held bar s start bytes f stop settles low reads. rows_fill greatest held bar s start bytes f stop settles low reads
