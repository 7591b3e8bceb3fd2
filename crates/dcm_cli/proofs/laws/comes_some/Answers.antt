use Rattle.dcm_cli.proofs.Runs.ObeyingMemory.{some_outcome}
use Rattle.dcm_cli.proofs.laws.comes_some.Goals as goal

pub returns : goal.returns
returns c = λ words s. some_outcome s words
