use Rattle.dcm_base_laws.proofs.Dictionaries.Unique.{called_back}
use Rattle.dcm_base_laws.proofs.laws.called_back.Goals as goal

pub returns : goal.returns
returns c = called_back
