use Rattle.dcm_dumps.proofs.OneDump.{some_outcome}
use Rattle.dcm_dumps.proofs.laws.dumps_are_some.Goals as goal

pub returns : goal.returns
returns c = some_outcome
