use Rattle.dcm_stream.proofs.Runs.Inputs.{ends_as}
use Rattle.dcm_stream.proofs.laws.machine_ends.Goals as goal

pub returns : goal.returns
returns g c = ends_as g.S.Sink.bar g.S.Sink.step g.S.Sink.writes
