use Rattle.std.proofs.Common.{rules, ◌≡◌, ◌∙◌, ℕ, List, ◌++◌, ap, sym, subst, refl, take, length, length-append, arith, [], None, inl}
use Rattle.std.proofs.lemmas.List.{length-take-le}
use Rattle.dcm_devices.specs.Device.{no_calls}
use Rattle.dcm_head.specs.MetaReading.{Reading}
use Rattle.dcm_head.proofs.HeadReading.Stays.{kept_all}
use Rattle.dcm_cli.specs.declared.head.Beginning.{Beginning}
use Rattle.dcm_cli.specs.InputCalls.{in_part, to_end, with_failure}
use Rattle.dcm_cli.specs.Pass.{Begins, HeadGoesOn}
use Rattle.dcm_cli.proofs.Passes.Passes.{read_nothing, read_twice}
use Rattle.dcm_cli.proofs.Passes.Heads.{read_on, begins_in, going_on, finished_head}
use Rattle.dcm_cli.proofs.Passes.Readers.{members, gave_on, piece_read, end_read, failed_read}
use Rattle.dcm_cli.proofs.head.read_head_of.Goals as goal

pub loop-size-init : goal.loop-size-init
loop-size-init g c =
    let start = c.requires.start in
    record {
      front = [];
      calls = no_calls refl refl;
      given = read_nothing (g.R.DeviceIn.remaining c.args.input.now);
      reading = start;
      going = ap (λ (r : Reading). r.end) start;
      bytes = ap (λ (r : Reading). r.bytes) start;
      count = refl;
      few = omega arith;
      unread = refl;
      size = refl;
    }

pub loop-size-smaller : goal.loop-size-smaller
loop-size-smaller g c =
    let came = rw c.in-Ok-Some.field-0-is at c.in-Ok-Some.ensures.bytes in
    let counted = rw c.in-Ok-Some.field-0-is at c.in-Ok-Some.ensures.count in
    omega (arith, c.loop-size.invariant.few, came.0, counted)

pub loop-size-preserved : goal.loop-size-preserved
loop-size-preserved g c =
    let loop = c.loop-size in
    let piece : List ℕ = take c.in-Ok-Some.size c.next_piece.new.buffer in
    let came = rw c.in-Ok-Some.field-0-is at c.in-Ok-Some.ensures.bytes in
    let none : c.feed.new.self.end ≡ None = c.in-More.ensures.answer in
    let bytes : c.feed.new.self.bytes ≡ loop.invariant.front ++ piece =
    ap (λ (r : Reading). r.bytes) c.feed.ensures.state
    ∙ kept_all loop.meta piece (ap (λ (r : Reading). r.end) (sym c.feed.ensures.state) ∙ none)
    ∙ ap (λ (xs : List ℕ). xs ++ piece) loop.invariant.bytes
    in
    let counted = rw c.in-Ok-Some.field-0-is at c.in-Ok-Some.ensures.count in
    let long = length-take-le c.in-Ok-Some.size c.next_piece.new.buffer came.1 in
    let count : c.next_piece.new.read ≡ length (loop.invariant.front ++ piece) = (let whole = length-append loop.invariant.front piece in omega (arith, whole, long, counted, loop.invariant.count)) in
    record {
      front = loop.invariant.front ++ piece;
      calls = gave_on g.R.DeviceIn.gets _ _ _ loop.invariant.front c.next_piece.new.buffer c.in-Ok-Some.size loop.invariant.calls came.0 came.1 (rw c.in-Ok-Some.field-0-is at c.in-Ok-Some.ensures.call);
      given = read_twice _ _ _ loop.invariant.front piece loop.invariant.given came.2;
      reading = read_on c.feed.new.self loop.meta loop.invariant.front piece loop.invariant.reading c.feed.ensures.state;
      going = none;
      bytes = bytes;
      count = count;
      few = let room = c.feed.ensures.room none in let all = ap length bytes in omega (arith, room, all, count);
      unread = c.in-Ok-Some.ensures.failed ∙ loop.invariant.unread;
      size = c.next_piece.ensures.kept ∙ loop.invariant.size;
    }

pub returns-in-Ok-None : goal.returns-in-Ok-None
returns-in-Ok-None g c =
    let loop = c.loop-size in
    let front = loop.invariant.front in
    record {
      read = front;
      how = to_end;
      reads = end_read (members g.R.Device g.R.DeviceIn) HeadGoesOn _ loop.input c.next_piece.new.input front loop.invariant.calls loop.invariant.given loop.invariant.unread
          (going_on loop.meta front loop.invariant.reading loop.invariant.going)
          (rw c.in-Ok-None.field-0-is at c.in-Ok-None.ensures.bytes) (rw c.in-Ok-None.field-0-is at c.in-Ok-None.ensures.call) c.in-Ok-None.ensures.failed;
      outcome = finished_head c.finish_head.new.meta loop.meta front c.next_piece.new.buffer c.next_piece.new.read c.finish_head.result loop.invariant.reading loop.invariant.going loop.invariant.bytes c.finish_head.ensures.state
          (rw c.in-Ok-None.field-0-is at c.in-Ok-None.ensures.count ∙ loop.invariant.count) c.finish_head.ensures.answer;
      within = search rules;
      failed = search rules;
      kept = search rules;
    }

pub returns-in-Err : goal.returns-in-Err
returns-in-Err g c =
    let loop = c.loop-size in
    let front = loop.invariant.front in
    record {
      read = front;
      how = with_failure;
      reads = failed_read (members g.R.Device g.R.DeviceIn) HeadGoesOn _ loop.input c.next_piece.new.input front loop.invariant.calls loop.invariant.given loop.invariant.unread
          (going_on loop.meta front loop.invariant.reading loop.invariant.going) c.in-Err.ensures.bytes c.in-Err.ensures.call c.in-Err.ensures.failed;
      outcome = (loop.invariant.reading, loop.invariant.going, c.in-Err.ensures.count ∙ loop.invariant.count);
      within = search rules;
      failed = search rules;
      kept = search rules;
    }

pub returns-in-Refused : goal.returns-in-Refused
returns-in-Refused g c =
    let loop = c.loop-size in
    let front = loop.invariant.front in
    let piece : List ℕ = take c.in-Ok-Some.size c.next_piece.new.buffer in
    record {
      read = front ++ piece;
      how = in_part;
      reads = piece_read (members g.R.Device g.R.DeviceIn) HeadGoesOn _ loop.input c.next_piece.new.input front loop.invariant.calls loop.invariant.given loop.invariant.unread
          (going_on loop.meta front loop.invariant.reading loop.invariant.going) c.next_piece.new.buffer c.in-Ok-Some.size
          (rw c.in-Ok-Some.field-0-is at c.in-Ok-Some.ensures.bytes) (rw c.in-Ok-Some.field-0-is at c.in-Ok-Some.ensures.call) c.in-Ok-Some.ensures.failed;
      outcome = (c.in-Refused.ensures.answer, inl (read_on c.feed.new.self loop.meta front piece loop.invariant.reading c.feed.ensures.state));
      within = search rules;
      failed = search rules;
      kept = search rules;
    }

pub returns-in-Ended : goal.returns-in-Ended
returns-in-Ended g c =
    let loop = c.loop-size in
    let front = loop.invariant.front in
    let piece : List ℕ = take c.in-Ok-Some.size c.next_piece.new.buffer in
    let came = rw c.in-Ok-Some.field-0-is at c.in-Ok-Some.ensures.bytes in
    let counted = rw c.in-Ok-Some.field-0-is at c.in-Ok-Some.ensures.count in
    let long = length-take-le c.in-Ok-Some.size c.next_piece.new.buffer came.1 in
    let buffer = c.next_piece.new.buffer in
    let said = c.in-Ended.ensures.answer in
    record {
      read = front ++ piece;
      how = in_part;
      reads = piece_read (members g.R.Device g.R.DeviceIn) HeadGoesOn _ loop.input c.next_piece.new.input front loop.invariant.calls loop.invariant.given loop.invariant.unread
          (going_on loop.meta front loop.invariant.reading loop.invariant.going) buffer c.in-Ok-Some.size
          came (rw c.in-Ok-Some.field-0-is at c.in-Ok-Some.ensures.call) c.in-Ok-Some.ensures.failed;
      outcome = subst (λ (b : Beginning). Begins c.feed.new.self b buffer in_part (front ++ piece)) (sym c.beginning_in.ensures)
          (begins_in c.feed.new.self loop.meta front piece buffer c.in-Ok-Some.size c.in-Ended.used c.next_piece.new.read c.in-Ended.ahead in_part
          loop.invariant.reading loop.invariant.bytes c.feed.ensures.state said.0 said.1 refl long c.in-Ended.ensures.used
          (let whole = length-append front piece in omega (arith, whole, long, counted, loop.invariant.count)));
      within = search rules;
      failed = search rules;
      kept = search rules;
    }
