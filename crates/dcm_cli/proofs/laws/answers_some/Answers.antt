use Rattle.dcm_cli.proofs.Runs.OneAnswer.{some_answer}
use Rattle.dcm_cli.proofs.laws.answers_some.Goals as goal

pub returns : goal.returns
returns c = some_answer
