use Rattle.dcm_stream.proofs.Runs.Inputs.{drives_as}
use Rattle.dcm_stream.proofs.laws.machine_drives.Goals as goal

pub returns : goal.returns
returns g c = drives_as g.S.Sink.bar g.S.Sink.step g.S.Sink.writes
