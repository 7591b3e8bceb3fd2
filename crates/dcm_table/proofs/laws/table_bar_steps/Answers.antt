use Rattle.dcm_table.proofs.BarCells.{bars_tell}
use Rattle.dcm_table.proofs.laws.table_bar_steps.Goals as goal

pub returns : goal.returns
returns c = λ greatest held f atoms tag vr declared settles low shown. bars_tell greatest held f atoms tag vr declared settles low shown
