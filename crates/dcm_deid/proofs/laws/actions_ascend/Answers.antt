use Rattle.dcm_deid.proofs.Rows.{table_ascends}
use Rattle.dcm_deid.proofs.laws.actions_ascend.Goals as goal

pub returns : goal.returns
returns c = table_ascends
