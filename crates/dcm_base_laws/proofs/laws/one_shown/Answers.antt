use Rattle.dcm_base_laws.proofs.DataSets.OneShown.{front_one}
use Rattle.dcm_base_laws.proofs.laws.one_shown.Goals as goal

pub returns : goal.returns
returns c = front_one
