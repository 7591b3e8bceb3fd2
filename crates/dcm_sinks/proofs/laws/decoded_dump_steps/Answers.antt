use Rattle.dcm_sinks.proofs.DecodedDumps.DataSets.{decoded_dump_steps}
use Rattle.dcm_sinks.proofs.laws.decoded_dump_steps.Goals as goal

pub returns : goal.returns
returns c = decoded_dump_steps
