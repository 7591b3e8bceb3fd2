use Rattle.dcm_tables.proofs.SureRows.{decides, decided_sure}
use Rattle.dcm_tables.proofs.laws.row_is_decided.Goals as goal

pub returns : goal.returns
returns c = record { front = decides; sure = decided_sure }
