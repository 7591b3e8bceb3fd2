use Rattle.dcm_build_laws.proofs.Rebuilds.StepsBuild.{all_built}
use Rattle.dcm_build_laws.proofs.laws.steps_build.Goals as goal

pub returns : goal.returns
returns c = all_built
