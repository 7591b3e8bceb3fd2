use Rattle.dcm_base_laws.proofs.DumpsBack.Losses.{recodes_same}
use Rattle.dcm_base_laws.proofs.laws.rebuilt_recodes.Goals as goal

pub returns : goal.returns
returns c = recodes_same
