use Rattle.dcm_tables.proofs.ShownCells.{cell_shown}
use Rattle.dcm_tables.proofs.laws.cell_is_shown.Goals as goal

pub returns : goal.returns
returns c = cell_shown
