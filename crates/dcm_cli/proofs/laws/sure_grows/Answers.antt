use Rattle.dcm_cli.proofs.Runs.Sure.{sure_grows}
use Rattle.dcm_cli.proofs.laws.sure_grows.Goals as goal

pub returns : goal.returns
returns c = sure_grows
