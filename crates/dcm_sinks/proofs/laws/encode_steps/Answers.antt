use Rattle.dcm_sinks.proofs.Conversions.DataSets.{encode_steps}
use Rattle.dcm_sinks.proofs.laws.encode_steps.Goals as goal

pub returns : goal.returns
returns c = encode_steps
