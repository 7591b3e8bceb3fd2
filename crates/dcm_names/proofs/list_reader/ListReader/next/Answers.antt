use Rattle.std.proofs.Common.{◌∙◌, sym, refl, subst, List, ℕ, arith}
use Rattle.dcm_devices.specs.Device.{no_calls}
use Rattle.dcm_names.specs.Names.{has_bytes, open_line}
use Rattle.dcm_names.specs.Held.{Holds}
use Rattle.dcm_names.specs.declared.list_reader.NextName.{NextName}
use Rattle.dcm_names.specs.Reader.{Answers, TellsNext, pending}
use Rattle.dcm_names.proofs.NameByName.{nothing_read, piece_read, a_name_read, list_ended, list_unread, holds_piece, holds_none, left_more, one_fewer, none_left, last_tells, failed_since}
use Rattle.dcm_names.proofs.list_reader.ListReader.next.Goals as goal

pub loop-self-init : goal.loop-self-init
loop-self-init g c = record {
  more = _;
  gave = no_calls refl refl;
  read = nothing_read c.args.self.now _ c.clear.ensures refl refl refl;
  left = omega arith;
  failed = refl;
}

pub loop-self-preserved : goal.loop-self-preserved
loop-self-preserved g c =
    let loop = c.loop-self.invariant in
    let passes = c.loop-self-test.ensures.takes loop.read.line loop.read.held in
    let same = c.loop-self-test.ensures.same in
    let next = piece_read g.R.DeviceIn.gets c.args.input.now c.loop-self.input c.refill.new.input c.args.self.now c.loop-self.self c.take_name.new.self c.refill.new.self loop.more loop.gave loop.read passes same.read same.over (holds_piece g.R.DeviceIn.gets _ _ _ _ c.in-Ok-true.field-0 c.in-Ok-true.field-0-test c.in-Ok-true.ensures.refills) in
    let piece = holds_piece g.R.DeviceIn.gets _ _ _ _ c.in-Ok-true.field-0 c.in-Ok-true.field-0-test c.in-Ok-true.ensures.refills in
    record {
      more = next.0;
      gave = next.1;
      read = next.2;
      left = left_more c.args.self.now c.loop-self.self c.take_name.new.self c.refill.new.self _ loop.left same.read passes.all piece.few piece.count piece.room piece.size;
      failed = c.in-Ok-true.ensures.failed ∙ loop.failed;
    }

pub returns-in-Ok-false-clause-answers : goal.returns-in-Ok-false-clause-answers
returns-in-Ok-false-clause-answers g c = λ given named has.
    let loop = c.loop-self.invariant in
    let passes = c.loop-self-test.ensures.takes loop.read.line loop.read.held in
    let none = holds_none g.R.DeviceIn.gets _ _ _ _ c.in-Ok-false.field-0 c.in-Ok-false.field-0-test c.in-Ok-false.ensures.refills in
    let last : List ℕ = open_line loop.read.line (pending c.loop-self.self) in
    subst (λ (answer : NextName). Answers g.R.DeviceIn.gets c.args.input.now c.refill.new.input c.args.self.now c.end.new.self given named answer)
    (sym (c.end.ensures.answer last (subst (λ l. Holds l last) (sym none.line) passes.held)))
    (list_ended g.R.DeviceIn.gets c.args.input.now c.loop-self.input c.refill.new.input c.args.self.now c.loop-self.self c.take_name.new.self c.end.new.self loop.more loop.gave loop.read passes none.call (c.end.ensures.line ∙ none.line) c.end.ensures.over
    c.if-self.false given named has (has_bytes last) refl)

pub returns-in-Err-clause-answers : goal.returns-in-Err-clause-answers
returns-in-Err-clause-answers g c = λ given named has.
    let loop = c.loop-self.invariant in
    let passes = c.loop-self-test.ensures.takes loop.read.line loop.read.held in
    list_unread g.R.DeviceIn.gets c.args.input.now c.loop-self.input c.refill.new.input c.args.self.now c.loop-self.self c.take_name.new.self c.refill.new.self loop.more loop.gave loop.read passes c.loop-self-test.ensures.same.read c.in-Err.ensures.refills
    c.if-self.false given named has

pub returns-clause-answers : goal.returns-clause-answers
returns-clause-answers g c = λ given named has.
    let loop = c.loop-self.invariant in
    let ends = c.loop-self-test.ensures.takes loop.read.line loop.read.held in
    let same = c.loop-self-test.ensures.same in
    a_name_read g.R.DeviceIn.gets c.args.input.now c.loop-self.input c.args.self.now c.loop-self.self c.take_name.new.self loop.more loop.gave loop.read ends same.read same.over c.if-self.false given named has

pub returns-clause-fewer : goal.returns-clause-fewer
returns-clause-fewer g c = λ name.
    let loop = c.loop-self.invariant in
    let same = c.loop-self-test.ensures.same in
    one_fewer c.args.self.now c.loop-self.self c.take_name.new.self c.if-self.false (same.over ∙ loop.read.over) loop.left same.read same.filled (c.loop-self-test.ensures.later refl)

pub returns-in-Ok-false-clause-fewer : goal.returns-in-Ok-false-clause-fewer
returns-in-Ok-false-clause-fewer g c = λ name. none_left c.args.self.now c.end.new.self c.if-self.false c.end.ensures.over

pub returns-in-Ok-false-clause-failed : goal.returns-in-Ok-false-clause-failed
returns-in-Ok-false-clause-failed g c =
    let loop = c.loop-self.invariant in
    let passes = c.loop-self-test.ensures.takes loop.read.line loop.read.held in
    let none = holds_none g.R.DeviceIn.gets _ _ _ _ c.in-Ok-false.field-0 c.in-Ok-false.field-0-test c.in-Ok-false.ensures.refills in
    let last : List ℕ = open_line loop.read.line (pending c.loop-self.self) in
    subst (λ (answer : NextName). TellsNext (g.R.Device.has_failed c.args.input.now) (g.R.Device.has_failed c.refill.new.input) answer)
    (sym (c.end.ensures.answer last (subst (λ l. Holds l last) (sym none.line) passes.held)))
    (last_tells (g.R.Device.has_failed c.args.input.now) (g.R.Device.has_failed c.refill.new.input) (has_bytes last) (c.in-Ok-false.ensures.failed ∙ loop.failed))

pub returns-in-Err-clause-failed : goal.returns-in-Err-clause-failed
returns-in-Err-clause-failed g c = failed_since _ _ _ _ c.in-Err.ensures.failed c.loop-self.invariant.failed
