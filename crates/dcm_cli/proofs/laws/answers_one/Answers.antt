use Rattle.dcm_cli.proofs.Runs.OneAnswer.{one_answer}
use Rattle.dcm_cli.proofs.laws.answers_one.Goals as goal

pub returns : goal.returns
returns c = one_answer
