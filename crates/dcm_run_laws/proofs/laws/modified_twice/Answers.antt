use Rattle.dcm_run_laws.proofs.ReadBack.ModifiedTwice.{modified_twice}
use Rattle.dcm_run_laws.proofs.laws.modified_twice.Goals as goal

pub returns : goal.returns
returns c = modified_twice
