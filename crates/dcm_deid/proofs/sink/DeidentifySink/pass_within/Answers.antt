use Rattle.std.proofs.Common.{List, Ok, refl, subst}
use Rattle.dcm_base.specs.Steps.Atoms.{Atom}
use Rattle.dcm_stream.specs.Tokens.{whole_atoms}
use Rattle.dcm_deid.specs.contracts.sink.DeidentifySinkSink.TheImpl.{ghosts}
use Rattle.dcm_deid.specs.Deidentifying as deidentifying
use Rattle.dcm_stream.proofs.Runs.Taking.{took_nothing}
use Rattle.dcm_deid.proofs.Passing.{left_open}
use Rattle.dcm_deid.proofs.Taking.{Answer, TookAs, token}
use Rattle.dcm_deid.proofs.Through.{state_after, put_after}
use Rattle.dcm_deid.proofs.Unheld.{none_held, within_passed, within_state}
use Rattle.dcm_deid.proofs.sink.DeidentifySink.pass_within.Goals as goal

pub returns : goal.returns
returns g c =
    let e = c.args.self.now in
    let key = e.key.bytes.now in
    let whole = whole_atoms c.args.head c.args.syntax c.args.value.now in
    let new = c.pass_within.new.self in
    let done : Answer = Ok tt in
    let shut = left_open _ c.requires in
    let unheld = none_held e.place.held c.if-is_some.ensures in
    let none = within_passed e.options key e.place c.args.head c.args.syntax c.args.value.now shut unheld in
    let took : TookAs g.S.Sink e.inner.now e.inner.now (deidentifying.passed_of e.options key e.place whole) done =
    subst (λ (xs : List Atom). TookAs g.S.Sink e.inner.now e.inner.now xs done) none (took_nothing g.S.Sink e.inner.now tt) in
    let on = within_state e.options key e.place c.args.head c.args.syntax c.args.value.now shut unheld new c.pass_within.ensures in
    token (ghosts g.row.S g.S.Sink g.S.Sink-dict) e _ whole done
    (state_after g.S.Sink.step g.S.Sink.writes (deidentifying.state e.options key e.place) (deidentifying.state e.options key new) whole (g.S.Sink.state e.inner.now) (g.S.Sink.state e.inner.now) (g.S.Sink.contents e.inner.now) (g.S.Sink.contents e.inner.now) done on took.takes)
    (put_after g.S.Sink.step g.S.Sink.writes (deidentifying.state e.options key e.place) whole (g.S.Sink.state e.inner.now) (g.S.Sink.state e.inner.now) (g.S.Sink.contents e.inner.now) (g.S.Sink.contents e.inner.now) done took.takes)
    took.failed refl
