use Rattle.dcm_table.proofs.AlikeForms.{utf8_alike}
use Rattle.dcm_table.proofs.CellsOfUtf8.{utf8_as_before}
use Rattle.dcm_table.proofs.laws.utf8_as_it_is.Goals as goal

pub returns : goal.returns
returns c = record { valid = utf8_alike; any = utf8_as_before }
