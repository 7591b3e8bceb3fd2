use Rattle.dcm_deid.proofs.NotedPatient as patients
use Rattle.dcm_deid.proofs.laws.nobody_is_known.Goals as goal

pub returns : goal.returns
returns c = patients.unnamed_steps
