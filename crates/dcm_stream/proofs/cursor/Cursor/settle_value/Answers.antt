use Rattle.std.proofs.Common.{rules, ◌≡◌, ap, arith}
use Rattle.dcm_stream.specs.declared.cursor.Cursor.{Cursor}
use Rattle.dcm_stream.specs.Machine.{reading, held_sign}
use Rattle.dcm_stream.proofs.Runs.Parts.{comes_settled}
use Rattle.dcm_stream.proofs.cursor.Cursor.settle_value.Goals as goal

pub returns : goal.returns
returns g c =
    let none : c.args.self.now.left ≡ 0 = omega arith in
    record { comes = comes_settled g.S.Sink.step g.S.Sink.writes c.args.self.now c.end_sign.new.self (g.S.Sink.state c.args.sink.now) (g.S.Sink.contents c.args.sink.now) (g.S.Sink.state c.take.new.self) (g.S.Sink.contents c.take.new.self) (g.S.Sink.state c.settle.new.sink) (g.S.Sink.contents c.settle.new.sink) (reading c.settle.new.self) c.settle.result none (ap (λ (p : Cursor). p.position) c.end_sign.ensures) (ap (λ (p : Cursor). p.levels) c.end_sign.ensures) (ap held_sign c.end_sign.ensures) c.in_ok-take.ensures.state c.in_ok-take.ensures.bytes c.settle.ensures.comes; failed = search rules; kept = search rules }
