use Rattle.dcm_stream.proofs.Heads.Waits.{sinks_never_early}
use Rattle.dcm_stream.proofs.laws.bars_are_decided.Goals as goal

pub returns : goal.returns
returns g c = sinks_never_early g.S.Sink.bar
