use Rattle.dcm_stream.proofs.Runs.Inputs.{refuses_as}
use Rattle.dcm_stream.proofs.laws.machine_refuses.Goals as goal

pub returns : goal.returns
returns g c = refuses_as g.S.Sink.bar g.S.Sink.step g.S.Sink.writes
