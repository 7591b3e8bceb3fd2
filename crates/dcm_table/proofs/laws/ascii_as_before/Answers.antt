use Rattle.dcm_table.proofs.AlikeForms.{ascii_alike}
use Rattle.dcm_table.proofs.laws.ascii_as_before.Goals as goal

pub returns : goal.returns
returns c = ascii_alike
