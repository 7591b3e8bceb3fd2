use Rattle.dcm_deid.proofs.Deidentified as steps
use Rattle.dcm_deid.proofs.laws.deidentify_steps.Goals as goal

pub returns : goal.returns
returns c = steps.deidentify_steps
