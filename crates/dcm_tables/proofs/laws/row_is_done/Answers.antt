use Rattle.dcm_cli.proofs.Passes.Readers.{members, writer}
use Rattle.dcm_tables.proofs.RowDone.{row_done}
use Rattle.dcm_tables.proofs.laws.row_is_done.Goals as goal

pub returns : goal.returns
returns g c = λ columns form name errors from to before result after does. row_done (members g.R.Device g.R.DeviceIn) (writer g.W.Device g.W.DeviceOut) columns form name errors from to before result after does
