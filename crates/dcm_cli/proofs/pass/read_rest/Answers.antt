use Rattle.std.proofs.Common.{rules, ◌∙◌, ℕ, List, ◌++◌, sym, subst, Ok, Err, take, arith, length-append, [], Some, refl, false}
use Rattle.std.proofs.lemmas.List.{length-take-le}
use Rattle.dcm_devices.specs.Device.{no_calls}
use Rattle.dcm_cli.specs.declared.ending.Ending.TheVariants.{Unread}
use Rattle.dcm_cli.specs.InputCalls.{in_part, to_end, with_failure}
use Rattle.dcm_cli.specs.Pass as spec
use Rattle.dcm_cli.proofs.Passes.Fed.{fed_on}
use Rattle.dcm_cli.proofs.Passes.Passes.{read_nothing, read_twice, still_going, ends_at_end, ends_halted, ends_unread}
use Rattle.dcm_cli.proofs.Passes.Readers.{members, gave_on, piece_read, end_read, failed_read}
use Rattle.dcm_cli.proofs.pass.read_rest.Goals as goal

pub loop-size-init : goal.loop-size-init
loop-size-init g c =
    record {
      front = [];
      calls = no_calls refl refl;
      given = read_nothing (g.R.DeviceIn.remaining c.args.input.now);
      fed = search rules;
      count = search rules;
      unread = refl;
      kept = refl;
      size = refl;
    }

pub returns-in-Ok-None : goal.returns-in-Ok-None
returns-in-Ok-None g c =
    let loop = c.loop-size in
    let front = loop.invariant.front in
    let Needed : List ℕ → Type 0 = spec.SetGoesOn g.S.Sink.bar g.S.Sink.step false [] c.args.machine.now.reading (g.S.Sink.state c.args.sink.now) in
    let going = still_going g.S.Sink.bar g.S.Sink.step g.S.Sink.writes c.args.machine.now (g.S.Sink.state c.args.sink.now) (g.S.Sink.contents c.args.sink.now) (g.S.Sink.has_failed c.args.sink.now)
    loop.machine (g.S.Sink.state loop.sink) (g.S.Sink.contents loop.sink) (g.S.Sink.has_failed loop.sink) front loop.invariant.fed
    in
    record {
      reads = record {
        more = front;
        how = to_end;
        reads = end_read (members g.R.Device g.R.DeviceIn) Needed _ loop.input c.next_piece.new.input front loop.invariant.calls loop.invariant.given loop.invariant.unread (refl, going)
            (rw c.in-Ok-None.field-0-is at c.in-Ok-None.ensures.bytes) (rw c.in-Ok-None.field-0-is at c.in-Ok-None.ensures.call) c.in-Ok-None.ensures.failed;
        ends = λ rest over none. subst (λ ending. spec.Ends g.S.Sink.bar g.S.Sink.step g.S.Sink.writes c.args.machine.now.reading (g.S.Sink.state c.args.sink.now) (g.S.Sink.contents c.args.sink.now)
            (Some rest) (g.S.Sink.state c.end.new.sink) (g.S.Sink.contents c.end.new.sink) front ending) (sym c.ending_of.ensures)
            (ends_at_end g.S.Sink.bar g.S.Sink.step g.S.Sink.writes c.args.machine.now (g.S.Sink.state c.args.sink.now) (g.S.Sink.contents c.args.sink.now) (g.S.Sink.has_failed c.args.sink.now)
            loop.machine (g.S.Sink.state loop.sink) (g.S.Sink.contents loop.sink) (g.S.Sink.has_failed loop.sink) front
            (Some rest) (g.S.Sink.state c.end.new.sink) (g.S.Sink.contents c.end.new.sink) c.end.result over loop.invariant.fed c.end.ensures.ends);
      };
      unread = search rules;
      failed = search rules;
      kept = search rules;
    }

pub returns-in-Err : goal.returns-in-Err
returns-in-Err g c =
    let loop = c.loop-size in
    let front = loop.invariant.front in
    let Needed : List ℕ → Type 0 = spec.SetGoesOn g.S.Sink.bar g.S.Sink.step false [] c.args.machine.now.reading (g.S.Sink.state c.args.sink.now) in
    let going = still_going g.S.Sink.bar g.S.Sink.step g.S.Sink.writes c.args.machine.now (g.S.Sink.state c.args.sink.now) (g.S.Sink.contents c.args.sink.now) (g.S.Sink.has_failed c.args.sink.now)
    loop.machine (g.S.Sink.state loop.sink) (g.S.Sink.contents loop.sink) (g.S.Sink.has_failed loop.sink) front loop.invariant.fed
    in
    record {
      reads = record {
        more = front;
        how = with_failure;
        reads = failed_read (members g.R.Device g.R.DeviceIn) Needed _ loop.input c.next_piece.new.input front loop.invariant.calls loop.invariant.given loop.invariant.unread (refl, going)
            c.in-Err.ensures.bytes c.in-Err.ensures.call c.in-Err.ensures.failed;
        ends = λ rest ok none. subst (λ (n : ℕ). spec.Ends g.S.Sink.bar g.S.Sink.step g.S.Sink.writes c.args.machine.now.reading (g.S.Sink.state c.args.sink.now) (g.S.Sink.contents c.args.sink.now)
            (Some rest) (g.S.Sink.state loop.sink) (g.S.Sink.contents loop.sink) front (Unread n)) (sym (c.in-Err.ensures.count ∙ loop.invariant.count))
            (ends_unread g.S.Sink.bar g.S.Sink.step g.S.Sink.writes c.args.machine.now (g.S.Sink.state c.args.sink.now) (g.S.Sink.contents c.args.sink.now) (g.S.Sink.has_failed c.args.sink.now)
            loop.machine (g.S.Sink.state loop.sink) (g.S.Sink.contents loop.sink) (g.S.Sink.has_failed loop.sink) front (Some rest) loop.invariant.fed);
      };
      unread = search rules;
      failed = search rules;
      kept = search rules;
    }

pub returns-in-Err-feed : goal.returns-in-Err-feed
returns-in-Err-feed g c =
    let loop = c.loop-size in
    let front = loop.invariant.front in
    let Needed : List ℕ → Type 0 = spec.SetGoesOn g.S.Sink.bar g.S.Sink.step false [] c.args.machine.now.reading (g.S.Sink.state c.args.sink.now) in
    let going = still_going g.S.Sink.bar g.S.Sink.step g.S.Sink.writes c.args.machine.now (g.S.Sink.state c.args.sink.now) (g.S.Sink.contents c.args.sink.now) (g.S.Sink.has_failed c.args.sink.now)
    loop.machine (g.S.Sink.state loop.sink) (g.S.Sink.contents loop.sink) (g.S.Sink.has_failed loop.sink) front loop.invariant.fed
    in
    let piece : List ℕ = take c.in-Ok-Some.size c.next_piece.new.buffer in
    record {
      reads = record {
        more = front ++ piece;
        how = in_part;
        reads = piece_read (members g.R.Device g.R.DeviceIn) Needed _ loop.input c.next_piece.new.input front loop.invariant.calls loop.invariant.given loop.invariant.unread (refl, going)
            c.next_piece.new.buffer c.in-Ok-Some.size
            (rw c.in-Ok-Some.field-0-is at c.in-Ok-Some.ensures.bytes) (rw c.in-Ok-Some.field-0-is at c.in-Ok-Some.ensures.call) c.in-Ok-Some.ensures.failed;
        ends = λ rest ok none. subst (λ ending. spec.Ends g.S.Sink.bar g.S.Sink.step g.S.Sink.writes c.args.machine.now.reading (g.S.Sink.state c.args.sink.now) (g.S.Sink.contents c.args.sink.now)
            (Some rest) (g.S.Sink.state c.feed.new.sink) (g.S.Sink.contents c.feed.new.sink) (front ++ piece) ending) (sym c.ending_of-in-Err-feed.ensures)
            (ends_halted g.S.Sink.bar g.S.Sink.step g.S.Sink.writes c.args.machine.now (g.S.Sink.state c.args.sink.now) (g.S.Sink.contents c.args.sink.now) (g.S.Sink.has_failed c.args.sink.now)
            c.feed.new.machine (g.S.Sink.state c.feed.new.sink) (g.S.Sink.contents c.feed.new.sink) (g.S.Sink.has_failed c.feed.new.sink) (front ++ piece)
            (Some rest) c.in-Err-feed.halt
            (fed_on g.S.Sink.bar g.S.Sink.step g.S.Sink.writes c.args.machine.now (g.S.Sink.state c.args.sink.now) (g.S.Sink.contents c.args.sink.now) (g.S.Sink.has_failed c.args.sink.now)
            loop.machine (g.S.Sink.state loop.sink) (g.S.Sink.contents loop.sink) (g.S.Sink.has_failed loop.sink)
            c.feed.new.machine (g.S.Sink.state c.feed.new.sink) (g.S.Sink.contents c.feed.new.sink) (g.S.Sink.has_failed c.feed.new.sink) front piece (Err c.in-Err-feed.halt)
            loop.invariant.fed c.in-Err-feed.ensures.fed));
      };
      unread = search rules;
      failed = search rules;
      kept = search rules;
    }

pub loop-size-preserved : goal.loop-size-preserved
loop-size-preserved g c =
    let loop = c.loop-size in
    let piece : List ℕ = take c.in-Ok-Some.size c.next_piece.new.buffer in
    let came = rw c.in-Ok-Some.field-0-is at c.in-Ok-Some.ensures.bytes in
    let counted = rw c.in-Ok-Some.field-0-is at c.in-Ok-Some.ensures.count in
    let long = length-take-le c.in-Ok-Some.size c.next_piece.new.buffer came.1 in
    record {
      front = loop.invariant.front ++ piece;
      calls = gave_on g.R.DeviceIn.gets _ _ _ loop.invariant.front c.next_piece.new.buffer c.in-Ok-Some.size loop.invariant.calls came.0 came.1 (rw c.in-Ok-Some.field-0-is at c.in-Ok-Some.ensures.call);
      given = read_twice _ _ _ loop.invariant.front piece loop.invariant.given came.2;
      fed = fed_on g.S.Sink.bar g.S.Sink.step g.S.Sink.writes c.args.machine.now (g.S.Sink.state c.args.sink.now) (g.S.Sink.contents c.args.sink.now) (g.S.Sink.has_failed c.args.sink.now)
          loop.machine (g.S.Sink.state loop.sink) (g.S.Sink.contents loop.sink) (g.S.Sink.has_failed loop.sink)
          c.feed.new.machine (g.S.Sink.state c.feed.new.sink) (g.S.Sink.contents c.feed.new.sink) (g.S.Sink.has_failed c.feed.new.sink) loop.invariant.front piece (Ok tt)
          loop.invariant.fed c.in_default.ensures.fed;
      count = let whole = length-append loop.invariant.front piece in omega (arith, whole, long, counted, loop.invariant.count);
      unread = c.in-Ok-Some.ensures.failed ∙ loop.invariant.unread;
      kept = c.in_default.ensures.kept ∙ loop.invariant.kept;
      size = c.next_piece.ensures.kept ∙ loop.invariant.size;
    }
