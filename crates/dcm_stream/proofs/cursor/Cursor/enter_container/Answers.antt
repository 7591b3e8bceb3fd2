use Rattle.std.proofs.Common.{rules, ◌≡◌, ◌∙◌, ap, sym, subst, ◌∷◌, None}
use Rattle.dcm_stream.specs.declared.cursor.Cursor.{Cursor}
use Rattle.dcm_stream.specs.Tokens.{atoms_of}
use Rattle.dcm_stream.specs.Machine.{reading, held_sign}
use Rattle.dcm_stream.specs.Judging.{LeadsTo}
use Rattle.dcm_stream.proofs.Heads.Entered.{fails_enter, no_sign_led, enters_container}
use Rattle.dcm_stream.proofs.cursor.Cursor.enter_container.Goals as goal

pub returns-in_err-take : goal.returns-in_err-take
returns-in_err-take g c =
    let cursor = c.args.self.now in
    record { comes = fails_enter g.S.Sink.step g.S.Sink.writes cursor.position cursor.levels c.args.opening (g.S.Sink.state c.args.sink.now) (g.S.Sink.contents c.args.sink.now) (g.S.Sink.state c.take.new.self) (g.S.Sink.contents c.take.new.self) (reading cursor) (atoms_of c.args.token) c.from_residual.result c.requires.token c.from_residual.ensures.1 c.in_err-take.ensures.bytes; failed = search rules; kept = search rules }

pub returns : goal.returns
returns g c =
    let cursor = c.args.self.now in
    let rest = c.begin_sign.ensures.rest in
    let p : Cursor = record { position = c.begin_sign.new.self.position; head = c.begin_sign.new.self.head; left = c.begin_sign.new.self.left; sign = c.begin_sign.new.self.sign; levels = c.push.new.self } in
    let levels : p.levels ≡ c.args.inner ∷ cursor.levels = c.push.ensures ∙ ap (λ (q : Cursor). c.args.inner ∷ q.levels) rest in
    let leads : LeadsTo cursor.position cursor.levels c.args.opening p.levels = subst (LeadsTo cursor.position cursor.levels c.args.opening) (sym levels) c.requires.inside in
    let none : held_sign p ≡ None = c.begin_sign.ensures.sign ∙ no_sign_led cursor.position cursor.levels c.args.opening p.levels leads in
    let at : p.position ≡ cursor.position = ap (λ (q : Cursor). q.position) rest in
    let comes = enters_container g.S.Sink.step g.S.Sink.writes cursor.position cursor.levels c.args.opening p (g.S.Sink.state c.args.sink.now) (g.S.Sink.contents c.args.sink.now)
    (g.S.Sink.state c.take.new.self) (g.S.Sink.contents c.take.new.self) (g.S.Sink.state c.settle.new.sink) (g.S.Sink.contents c.settle.new.sink) (reading c.settle.new.self)
    (atoms_of c.args.token) c.settle.result leads none at c.requires.token c.in_ok-take.ensures.state c.in_ok-take.ensures.bytes c.settle.ensures.comes in
    record { comes = comes; failed = search rules; kept = search rules }
