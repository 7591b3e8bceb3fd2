use Rattle.dcm_dumps.proofs.OneDump.{one_outcome}
use Rattle.dcm_dumps.proofs.laws.dumps_are_one.Goals as goal

pub returns : goal.returns
returns c = one_outcome
