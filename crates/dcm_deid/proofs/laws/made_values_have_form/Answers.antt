use Rattle.dcm_deid.proofs.Formed.{made_form}
use Rattle.dcm_deid.proofs.laws.made_values_have_form.Goals as goal

pub returns : goal.returns
returns c = made_form
