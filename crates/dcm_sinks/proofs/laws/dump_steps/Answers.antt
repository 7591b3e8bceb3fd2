use Rattle.dcm_sinks.proofs.Dumps.DataSets.{dump_steps}
use Rattle.dcm_sinks.proofs.laws.dump_steps.Goals as goal

pub returns : goal.returns
returns c = dump_steps
