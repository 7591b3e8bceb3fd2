use Rattle.dcm_sinks.proofs.Conversions.Reads.{encode_bars}
use Rattle.dcm_sinks.proofs.laws.encode_bars.Goals as goal

pub returns : goal.returns
returns c = encode_bars
