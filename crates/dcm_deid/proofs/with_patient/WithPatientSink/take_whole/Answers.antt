use Rattle.dcm_stream.specs.Tokens.{whole_atoms}
use Rattle.dcm_deid.proofs.NotedPatient.{put_after, state_after}
use Rattle.dcm_deid.proofs.with_patient.WithPatientSink.take_whole.Goals as goal

pub returns-clause-state : goal.returns-clause-state
returns-clause-state g c =
    let e = c.args.self.now in
    state_after g.S.Sink.step g.S.Sink.writes e.patient c.note_whole.new.patient (g.S.Sink.state e.inner.now) (g.S.Sink.state c.take_whole.new.self) (whole_atoms c.args.head c.args.syntax c.args.value.now) c.take_whole.result c.note_whole.ensures c.take_whole.ensures.state

pub returns-clause-bytes : goal.returns-clause-bytes
returns-clause-bytes g c =
    let e = c.args.self.now in
    put_after g.S.Sink.step g.S.Sink.writes e.patient (g.S.Sink.state e.inner.now) (whole_atoms c.args.head c.args.syntax c.args.value.now) (g.S.Sink.contents e.inner.now) (g.S.Sink.contents c.take_whole.new.self) c.take_whole.result c.take_whole.ensures.bytes
