use Rattle.dcm_cli.proofs.Runs.ObeyingMemory.{one_outcome}
use Rattle.dcm_cli.proofs.laws.comes_one.Goals as goal

pub returns : goal.returns
returns c = λ words s a b. one_outcome s words a b
