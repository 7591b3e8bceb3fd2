use Rattle.dcm_table.proofs.BarAtoms.{tabled_bars}
use Rattle.dcm_table.proofs.laws.table_by_atoms.Goals as goal

pub returns : goal.returns
returns c = λ greatest. tabled_bars greatest
