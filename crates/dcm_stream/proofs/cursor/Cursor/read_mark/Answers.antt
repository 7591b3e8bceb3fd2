use Rattle.std.proofs.Common.{rules, sym, refl, Ok, Err, ◌+◌}
use Rattle.dcm_stream.specs.declared.judge.Opening.{Opening}
use Rattle.dcm_stream.specs.declared.judge.Judged.TheVariants as judged
use Rattle.dcm_stream.specs.Judging.{bars_head}
use Rattle.dcm_stream.specs.Marks.{opening_of}
use Rattle.dcm_stream.specs.Machine.{reading}
use Rattle.dcm_stream.proofs.Runs.Pieces.{fails_first}
use Rattle.dcm_stream.proofs.Heads.PieceHeads.{piece_few, piece_opens}
use Rattle.dcm_stream.proofs.cursor.Cursor.read_mark.Goals as goal

pub enter_mark-requires-clause-few : goal.enter_mark-requires-clause-few
enter_mark-requires-clause-few g c =
    let s = g.S.Sink.state c.args.sink.now in
    let o : Opening = opening_of c.in-Some.inner.syntax c.in-Some-mark_in.mark in
    piece_few g.S.Sink.bar g.S.Sink.step g.S.Sink.writes c.args.self.now c.in-Some.inner s c.args.bytes.now c.requires.head c.requires.left c.requires.within (sym c.in-Some.ensures) (judged.Opens o 8) o 8 (c.args.self.now.position + 8)
    c.requires.stands (c.in-Some-mark_in.ensures (bars_head g.S.Sink.bar s)) refl

pub returns-in_err-enter_mark-clause-fed : goal.returns-in_err-enter_mark-clause-fed
returns-in_err-enter_mark-clause-fed g c =
    let s = g.S.Sink.state c.args.sink.now in
    let o : Opening = opening_of c.in-Some.inner.syntax c.in-Some-mark_in.mark in
    let fed = piece_opens g.S.Sink.bar g.S.Sink.step g.S.Sink.writes c.args.self.now c.in-Some.inner s c.args.bytes.now c.requires.head c.requires.left c.requires.within (sym c.in-Some.ensures) {T = Unit {0}} (g.S.Sink.contents c.args.sink.now)
    (g.S.Sink.state c.enter_mark.new.sink) (g.S.Sink.contents c.enter_mark.new.sink) (reading c.enter_mark.new.self) (judged.Opens o 8) o 8 (Err c.in_err-enter_mark.field-0.0) (c.in-Some-mark_in.ensures (bars_head g.S.Sink.bar s)) refl c.in_err-enter_mark.ensures.comes in
    record { feeds = fails_first g.S.Sink.bar g.S.Sink.step g.S.Sink.writes (Unit {0}) c.args.self.now s (g.S.Sink.contents c.args.sink.now) (g.S.Sink.state c.enter_mark.new.sink) (g.S.Sink.contents c.enter_mark.new.sink) c.enter_mark.new.self _ c.args.bytes.now 8 c.in_err-enter_mark.field-0.0 c.from_residual.result refl c.from_residual.ensures.1 fed; failed = search rules; kept = search rules }

pub returns-clause-fed : goal.returns-clause-fed
returns-clause-fed g c =
    let s = g.S.Sink.state c.args.sink.now in
    let o : Opening = opening_of c.in-Some.inner.syntax c.in-Some-mark_in.mark in
    let feeds = piece_opens g.S.Sink.bar g.S.Sink.step g.S.Sink.writes c.args.self.now c.in-Some.inner s c.args.bytes.now c.requires.head c.requires.left c.requires.within (sym c.in-Some.ensures) {T = Unit {0}} (g.S.Sink.contents c.args.sink.now)
    (g.S.Sink.state c.enter_mark.new.sink) (g.S.Sink.contents c.enter_mark.new.sink) (reading c.enter_mark.new.self) (judged.Opens o 8) o 8 (Ok (tt {0})) (c.in-Some-mark_in.ensures (bars_head g.S.Sink.bar s)) refl c.in_ok-enter_mark.ensures.comes in
    record { feeds = feeds; failed = search rules; kept = search rules }
