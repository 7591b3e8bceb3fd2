use Rattle.std.proofs.Common.{rules, sym, refl, length, Ok, Err, arith, ◌+◌, ◌≤◌}
use Rattle.dcm_stream.specs.declared.judge.Opening.{Opening}
use Rattle.dcm_stream.specs.declared.judge.Opening.TheVariants as opening
use Rattle.dcm_stream.specs.declared.judge.Judged.TheVariants as judged
use Rattle.dcm_stream.specs.Judging.{bars_head}
use Rattle.dcm_stream.specs.Machine.{reading}
use Rattle.dcm_stream.proofs.Runs.Pieces.{fails_first}
use Rattle.dcm_stream.proofs.Heads.PieceHeads.{piece_fits, piece_few, piece_opens}
use Rattle.dcm_stream.proofs.cursor.Cursor.read_sequence.Goals as goal

pub enter_sequence-requires-clause-few : goal.enter_sequence-requires-clause-few
enter_sequence-requires-clause-few g c =
    let s = g.S.Sink.state c.args.sink.now in
    let o : Opening = opening.Sequence c.in-Some-sequence_in.head c.in-Some-sequence_in.syntax in
    let few = piece_few g.S.Sink.bar g.S.Sink.step g.S.Sink.writes c.args.self.now c.in-Some.inner s c.args.bytes.now c.requires.head c.requires.left c.requires.within (sym c.in-Some.ensures) (judged.Opens o 12) o 12 (c.args.self.now.position + 12)
    c.requires.stands c.in-Some-sequence_in.ensures refl in
    omega (arith, few)

pub returns-in_err-enter_sequence-clause-fed : goal.returns-in_err-enter_sequence-clause-fed
returns-in_err-enter_sequence-clause-fed g c =
    let s = g.S.Sink.state c.args.sink.now in
    let o : Opening = opening.Sequence c.in-Some-sequence_in.head c.in-Some-sequence_in.syntax in
    let fed = piece_opens g.S.Sink.bar g.S.Sink.step g.S.Sink.writes c.args.self.now c.in-Some.inner s c.args.bytes.now c.requires.head c.requires.left c.requires.within (sym c.in-Some.ensures) {T = Unit {0}} (g.S.Sink.contents c.args.sink.now)
    (g.S.Sink.state c.enter_sequence.new.sink) (g.S.Sink.contents c.enter_sequence.new.sink) (reading c.enter_sequence.new.self) (judged.Opens o 12) o 12 (Err c.in_err-enter_sequence.field-0.0) c.in-Some-sequence_in.ensures refl c.in_err-enter_sequence.ensures.comes in
    record { feeds = fails_first g.S.Sink.bar g.S.Sink.step g.S.Sink.writes (Unit {0}) c.args.self.now s (g.S.Sink.contents c.args.sink.now) (g.S.Sink.state c.enter_sequence.new.sink) (g.S.Sink.contents c.enter_sequence.new.sink) c.enter_sequence.new.self _ c.args.bytes.now 12 c.in_err-enter_sequence.field-0.0 c.from_residual.result refl c.from_residual.ensures.1 fed; failed = search rules; kept = search rules }

pub returns-clause-some : goal.returns-clause-some
returns-clause-some g c =
    let s = g.S.Sink.state c.args.sink.now in
    let o : Opening = opening.Sequence c.in-Some-sequence_in.head c.in-Some-sequence_in.syntax in
    (piece_fits g.S.Sink.bar g.S.Sink.step g.S.Sink.writes c.args.self.now c.in-Some.inner s c.args.bytes.now c.requires.head c.requires.left c.requires.within (sym c.in-Some.ensures) (judged.Opens o 12) o 12 c.in-Some-sequence_in.ensures refl).1

pub returns-clause-fed : goal.returns-clause-fed
returns-clause-fed g c =
    let s = g.S.Sink.state c.args.sink.now in
    let o : Opening = opening.Sequence c.in-Some-sequence_in.head c.in-Some-sequence_in.syntax in
    let feeds = piece_opens g.S.Sink.bar g.S.Sink.step g.S.Sink.writes c.args.self.now c.in-Some.inner s c.args.bytes.now c.requires.head c.requires.left c.requires.within (sym c.in-Some.ensures) {T = Unit {0}} (g.S.Sink.contents c.args.sink.now)
    (g.S.Sink.state c.enter_sequence.new.sink) (g.S.Sink.contents c.enter_sequence.new.sink) (reading c.enter_sequence.new.self) (judged.Opens o 12) o 12 (Ok (tt {0})) c.in-Some-sequence_in.ensures refl c.in_ok-enter_sequence.ensures.comes in
    record { feeds = feeds; failed = search rules; kept = search rules }
