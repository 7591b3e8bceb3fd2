use Rattle.dcm_instance.proofs.HeldValues.{held_is_fit}
use Rattle.dcm_instance.proofs.laws.held_is_fit.Goals as goal

pub returns : goal.returns
returns c = held_is_fit
