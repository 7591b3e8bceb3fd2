use Rattle.dcm_base.proofs.Conversions.NormalForm.{recodes_normal, normal_once}
use Rattle.dcm_base.proofs.laws.normal_recodes.Goals as goal

pub returns : goal.returns
returns c = record { bytes = recodes_normal; once = normal_once }
