use Rattle.dcm_stream.specs.Tokens.{atoms_of}
use Rattle.dcm_deid.proofs.NotedPatient.{put_after, state_after}
use Rattle.dcm_deid.proofs.with_patient.WithPatientSink.take.Goals as goal

pub returns-clause-state : goal.returns-clause-state
returns-clause-state g c =
    let e = c.args.self.now in
    state_after g.S.Sink.step g.S.Sink.writes e.patient c.note.new.patient (g.S.Sink.state e.inner.now) (g.S.Sink.state c.take.new.self) (atoms_of c.args.token) c.take.result c.note.ensures c.take.ensures.state

pub returns-clause-bytes : goal.returns-clause-bytes
returns-clause-bytes g c =
    let e = c.args.self.now in
    put_after g.S.Sink.step g.S.Sink.writes e.patient (g.S.Sink.state e.inner.now) (atoms_of c.args.token) (g.S.Sink.contents e.inner.now) (g.S.Sink.contents c.take.new.self) c.take.result c.take.ensures.bytes
