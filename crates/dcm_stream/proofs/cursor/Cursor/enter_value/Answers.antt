use Rattle.std.proofs.Common.{rules, subst}
use Rattle.dcm_stream.specs.declared.cursor.Cursor.{Cursor}
use Rattle.dcm_stream.specs.Tokens.{atoms_of}
use Rattle.dcm_stream.specs.Machine.{Comes, reading, held_sign, settles_value}
use Rattle.dcm_stream.proofs.Heads.Entered.{fails_enter, enters_value, value_opened}
use Rattle.dcm_stream.proofs.cursor.Cursor.enter_value.Goals as goal

pub returns-in_err-take : goal.returns-in_err-take
returns-in_err-take g c =
    let cursor = c.args.self.now in
    record { comes = fails_enter g.S.Sink.step g.S.Sink.writes cursor.position cursor.levels c.args.opening (g.S.Sink.state c.args.sink.now) (g.S.Sink.contents c.args.sink.now) (g.S.Sink.state c.take.new.self) (g.S.Sink.contents c.take.new.self) (reading cursor) (atoms_of c.args.token) c.from_residual.result c.requires.token c.from_residual.ensures.1 c.in_err-take.ensures.bytes; failed = search rules; kept = search rules }

pub returns : goal.returns
returns g c =
    let cursor = c.args.self.now in
    let settled = subst (λ (p : Cursor). Comes g.S.Sink.step g.S.Sink.writes (g.S.Sink.state c.take.new.self) (g.S.Sink.contents c.take.new.self) (g.S.Sink.state c.settle_value.new.sink) (g.S.Sink.contents c.settle_value.new.sink)
    (reading c.settle_value.new.self) (settles_value (record p { left = c.args.size })) c.settle_value.result) c.begin_sign.ensures.rest c.settle_value.ensures.comes in
    let comes = enters_value g.S.Sink.step g.S.Sink.writes cursor.position cursor.levels c.args.opening c.args.size (g.S.Sink.state c.args.sink.now) (g.S.Sink.contents c.args.sink.now)
    (g.S.Sink.state c.take.new.self) (g.S.Sink.contents c.take.new.self) (g.S.Sink.state c.settle_value.new.sink) (g.S.Sink.contents c.settle_value.new.sink) (reading c.settle_value.new.self)
    (atoms_of c.args.token) (held_sign c.begin_sign.new.self) c.settle_value.result (value_opened c.args.opening c.args.size c.requires.value) c.requires.token c.in_ok-take.ensures.state c.in_ok-take.ensures.bytes c.begin_sign.ensures.sign settled in
    record { comes = comes; failed = search rules; kept = search rules }
