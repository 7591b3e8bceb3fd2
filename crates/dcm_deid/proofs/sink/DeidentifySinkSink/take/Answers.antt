use Rattle.std.proofs.Common.{◌≡◌, List, ℕ, fold}
use Rattle.dcm_stream.specs.Tokens.{atoms_of}
use Rattle.dcm_deid.specs.DeidentifySink as spec
use Rattle.dcm_deid.specs.Deidentifying as deidentifying
use Rattle.dcm_deid.proofs.Through.{state_after, put_after, went_on}
use Rattle.dcm_deid.proofs.sink.DeidentifySinkSink.take.Goals as goal

pub returns-clause-state : goal.returns-clause-state
returns-clause-state g c =
    let e = c.args.self.now in
    let on = went_on (Unit {0}) (λ (key : List ℕ). deidentifying.state e.options key c.pass_on.new.place ≡ fold spec.next (deidentifying.state e.options key e.place) (atoms_of c.args.token)) e.key.bytes.now c.pass_on.result c.pass_on.ensures.state in
    state_after g.S.Sink.step g.S.Sink.writes (deidentifying.state e.options e.key.bytes.now e.place) (deidentifying.state e.options e.key.bytes.now c.pass_on.new.place) (atoms_of c.args.token) (g.S.Sink.state e.inner.now) (g.S.Sink.state c.pass_on.new.sink)
    (g.S.Sink.contents e.inner.now) (g.S.Sink.contents c.pass_on.new.sink) c.pass_on.result on c.pass_on.ensures.took.takes

pub returns-clause-bytes : goal.returns-clause-bytes
returns-clause-bytes g c =
    let e = c.args.self.now in
    put_after g.S.Sink.step g.S.Sink.writes (deidentifying.state e.options e.key.bytes.now e.place) (atoms_of c.args.token) (g.S.Sink.state e.inner.now) (g.S.Sink.state c.pass_on.new.sink)
    (g.S.Sink.contents e.inner.now) (g.S.Sink.contents c.pass_on.new.sink) c.pass_on.result c.pass_on.ensures.took.takes
