use Rattle.std.proofs.Common.{◌≡◌, List, ℕ, fold, ap}
use Rattle.dcm_stream.specs.Tokens.{whole_atoms}
use Rattle.dcm_deid.specs.contracts.sink.DeidentifySinkSink.TheImpl.{ghosts}
use Rattle.dcm_deid.specs.DeidentifySink as spec
use Rattle.dcm_deid.specs.Deidentifying as deidentifying
use Rattle.dcm_deid.proofs.Taking.{token}
use Rattle.dcm_deid.proofs.Through.{state_after, put_after, went_on}
use Rattle.dcm_deid.proofs.sink.DeidentifySink.pass_whole.Goals as goal

pub returns-in-Anew : goal.returns-in-Anew
returns-in-Anew g c =
    let e = c.args.self.now in
    let key = e.key.bytes.now in
    let whole = whole_atoms c.args.head c.args.syntax c.args.value.now in
    let new = c.pass_anew.new in
    let r = c.pass_anew.result in
    let took = c.pass_anew.ensures.took in
    let on = went_on (Unit {0}) (λ (k : List ℕ). deidentifying.state e.options k new.place ≡ fold spec.next (deidentifying.state e.options k e.place) whole) key r c.pass_anew.ensures.state in
    token (ghosts g.row.S g.S.Sink g.S.Sink-dict) e _ whole r
    (state_after g.S.Sink.step g.S.Sink.writes (deidentifying.state e.options key e.place) (deidentifying.state e.options key new.place) whole (g.S.Sink.state e.inner.now) (g.S.Sink.state new.sink) (g.S.Sink.contents e.inner.now) (g.S.Sink.contents new.sink) r on took.takes)
    (put_after g.S.Sink.step g.S.Sink.writes (deidentifying.state e.options key e.place) whole (g.S.Sink.state e.inner.now) (g.S.Sink.state new.sink) (g.S.Sink.contents e.inner.now) (g.S.Sink.contents new.sink) r took.takes)
    took.failed (ap (λ k. (e.inner.ghost_name, k)) took.kept)

pub returns-in_default-2 : goal.returns-in_default-2
returns-in_default-2 g c =
    let e = c.args.self.now in
    let key = e.key.bytes.now in
    let whole = whole_atoms c.args.head c.args.syntax c.args.value.now in
    let new = c.pass_unheld.new in
    let r = c.pass_unheld.result in
    let took = c.pass_unheld.ensures.took key in
    let on = went_on (Unit {0}) (λ (k : List ℕ). deidentifying.state e.options k new.place ≡ fold spec.next (deidentifying.state e.options k e.place) whole) key r c.pass_unheld.ensures.state in
    token (ghosts g.row.S g.S.Sink g.S.Sink-dict) e _ whole r
    (state_after g.S.Sink.step g.S.Sink.writes (deidentifying.state e.options key e.place) (deidentifying.state e.options key new.place) whole (g.S.Sink.state e.inner.now) (g.S.Sink.state new.sink) (g.S.Sink.contents e.inner.now) (g.S.Sink.contents new.sink) r on took.takes)
    (put_after g.S.Sink.step g.S.Sink.writes (deidentifying.state e.options key e.place) whole (g.S.Sink.state e.inner.now) (g.S.Sink.state new.sink) (g.S.Sink.contents e.inner.now) (g.S.Sink.contents new.sink) r took.takes)
    took.failed (ap (λ k. (e.inner.ghost_name, k)) took.kept)
