use Rattle.dcm_stream.proofs.Runs.Inputs.{waits_as}
use Rattle.dcm_stream.proofs.laws.machine_waits.Goals as goal

pub returns : goal.returns
returns g c = waits_as g.S.Sink.bar g.S.Sink.step g.S.Sink.writes
