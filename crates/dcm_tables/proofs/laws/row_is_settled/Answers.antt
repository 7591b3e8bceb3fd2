use Rattle.dcm_tables.proofs.SettledRows.{row_settled, lines_settled, status_settled}
use Rattle.dcm_tables.proofs.laws.row_is_settled.Goals as goal

pub returns : goal.returns
returns c = λ form name slots unknown end. (row_settled form name slots, lines_settled form name slots unknown end, status_settled slots end)
