use Rattle.dcm_cli.proofs.Passes.Readers.{members}
use Rattle.dcm_tables.proofs.RowReads.{row_comes}
use Rattle.dcm_tables.proofs.laws.row_is_read.Goals as goal

pub returns : goal.returns
returns g c = λ columns before after cells end reads. row_comes (members g.R.Device g.R.DeviceIn) columns before after cells end reads
