use Rattle.std.proofs.Common.{rules, ◌≡◌, ◌∙◌, ap, sym, subst, ℕ, List, ◌++◌, take, length-append, arith, [], Some, refl}
use Rattle.std.proofs.lemmas.List.{append-nil, length-take-le}
use Rattle.dcm_devices.specs.Device.{no_calls}
use Rattle.dcm_words.specs.Words.{build as build_job}
use Rattle.dcm_cli.specs.declared.ending.Ending.{Ending}
use Rattle.dcm_cli.specs.declared.ending.Ending.TheVariants.{Unread}
use Rattle.dcm_cli.specs.InputCalls.{in_part, to_end, with_failure, IsUndecided}
use Rattle.dcm_cli.specs.Run.{IsDecided, Worked}
use Rattle.dcm_cli.proofs.Passes.Decided.{decided_at_end, decided_unread}
use Rattle.dcm_cli.proofs.Passes.Lines.{going_is, not_unwritten, built_on, built_halted, built_unread, built_ended, built_decided, lines_undecided}
use Rattle.dcm_cli.proofs.Passes.Passes.{read_nothing, read_twice}
use Rattle.dcm_cli.proofs.Passes.Readers.{members, gave_on, piece_read, end_read, failed_read}
use Rattle.dcm_cli.proofs.build.build_lines.Goals as goal

pub loop-size-init : goal.loop-size-init
loop-size-init g c =
    record {
      front = [];
      calls = no_calls refl refl;
      given = read_nothing (g.R.DeviceIn.remaining c.args.input.now);
      state = search rules;
      out = search rules;
      going = search rules;
      count = refl;
      place = search rules;
      within = omega arith;
      unread = refl;
      unwritten = refl;
      size = refl;
    }

pub returns-in-Ok-None : goal.returns-in-Ok-None
returns-in-Ok-None g c =
    let loop = c.loop-size in
    let front = loop.invariant.front in
    let worked : (rest : List ℕ) → rest ≡ [] → Worked (build_job c.args.limit) (front ++ rest) (Some rest) (g.W.DeviceOut.contents c.args.out.now) (g.W.DeviceOut.contents c.end.new.out) c.ending_of.result = λ rest none.
    let whole : front ++ rest ≡ front = ap (λ (bytes : List ℕ). front ++ bytes) none ∙ append-nil front in
    subst (λ (ending : Ending). Worked (build_job c.args.limit) (front ++ rest) (Some rest) (g.W.DeviceOut.contents c.args.out.now) (g.W.DeviceOut.contents c.end.new.out) ending) (sym c.ending_of.ensures)
    (built_ended c.args.limit (front ++ rest) front (Some rest) (g.W.DeviceOut.contents c.args.out.now) loop.builder.state (g.W.DeviceOut.contents loop.out) loop.invariant.state loop.invariant.out whole (g.W.DeviceOut.contents c.end.new.out) c.end.result c.end.ensures.ends)
    in
    record {
      given = front;
      how = to_end;
      reads = end_read (members g.R.Device g.R.DeviceIn) (IsUndecided (build_job c.args.limit)) _ loop.input c.next_piece.new.input front loop.invariant.calls loop.invariant.given loop.invariant.unread
          (lines_undecided c.args.limit front loop.builder.state loop.invariant.state (going_is loop.builder.state.told loop.builder.failed loop.invariant.going).1)
          (rw c.in-Ok-None.field-0-is at c.in-Ok-None.ensures.bytes) (rw c.in-Ok-None.field-0-is at c.in-Ok-None.ensures.call) c.in-Ok-None.ensures.failed;
      worked = worked;
      decided = decided_at_end (build_job c.args.limit) front to_end c.ending_of.result (g.W.DeviceOut.contents c.args.out.now) (g.W.DeviceOut.contents c.end.new.out) refl (worked [] refl);
      unread = search rules;
      failed = search rules;
    }

pub returns-in-Err : goal.returns-in-Err
returns-in-Err g c =
    let loop = c.loop-size in
    let front = loop.invariant.front in
    let going = (going_is loop.builder.state.told loop.builder.failed loop.invariant.going).1 in
    record {
      given = front;
      how = with_failure;
      reads = failed_read (members g.R.Device g.R.DeviceIn) (IsUndecided (build_job c.args.limit)) _ loop.input c.next_piece.new.input front loop.invariant.calls loop.invariant.given loop.invariant.unread
          (lines_undecided c.args.limit front loop.builder.state loop.invariant.state going) c.in-Err.ensures.bytes c.in-Err.ensures.call c.in-Err.ensures.failed;
      worked = λ rest ok.
          subst (λ (n : ℕ). Worked (build_job c.args.limit) (front ++ rest) (Some rest) (g.W.DeviceOut.contents c.args.out.now) (g.W.DeviceOut.contents loop.out) (Unread n)) (sym (c.in-Err.ensures.count ∙ loop.invariant.count))
          (built_unread c.args.limit (front ++ rest) front (Some rest) (g.W.DeviceOut.contents c.args.out.now) loop.builder.state (g.W.DeviceOut.contents loop.out) loop.invariant.state loop.invariant.out rest going refl refl);
      decided = decided_unread (build_job c.args.limit) front with_failure (Unread c.next_piece.new.read) c.next_piece.new.read refl;
      unread = search rules;
      failed = search rules;
    }

pub returns-in-Err-feed : goal.returns-in-Err-feed
returns-in-Err-feed g c =
    let loop = c.loop-size in
    let front = loop.invariant.front in
    let piece : List ℕ = take c.in-Ok-Some.size c.next_piece.new.buffer in
    let going = going_is loop.builder.state.told loop.builder.failed loop.invariant.going in
    record {
      given = front ++ piece;
      how = in_part;
      reads = piece_read (members g.R.Device g.R.DeviceIn) (IsUndecided (build_job c.args.limit)) _ loop.input c.next_piece.new.input front loop.invariant.calls loop.invariant.given loop.invariant.unread
          (lines_undecided c.args.limit front loop.builder.state loop.invariant.state going.1) c.next_piece.new.buffer c.in-Ok-Some.size
          (rw c.in-Ok-Some.field-0-is at c.in-Ok-Some.ensures.bytes) (rw c.in-Ok-Some.field-0-is at c.in-Ok-Some.ensures.call) c.in-Ok-Some.ensures.failed;
      worked = λ rest ok.
          subst (λ (ending : Ending). Worked (build_job c.args.limit) ((front ++ piece) ++ rest) (Some rest) (g.W.DeviceOut.contents c.args.out.now) (g.W.DeviceOut.contents c.feed.new.out) ending) (sym c.ending_of-in-Err-feed.ensures)
          (built_halted c.args.limit (g.W.DeviceOut.contents c.args.out.now) loop.builder.state (g.W.DeviceOut.contents loop.out) c.feed.new.self (g.W.DeviceOut.contents c.feed.new.out) front piece
          loop.invariant.state loop.invariant.out (c.in-Err-feed.ensures.went.goes going.0) ((front ++ piece) ++ rest) rest (Some rest) c.in-Err-feed.halt refl c.in-Err-feed.ensures.answer);
      decided = subst (IsDecided (build_job c.args.limit) (front ++ piece) in_part) (sym c.ending_of-in-Err-feed.ensures)
          (built_decided c.args.limit (g.W.DeviceOut.contents c.args.out.now) loop.builder.state (g.W.DeviceOut.contents loop.out) c.feed.new.self (g.W.DeviceOut.contents c.feed.new.out) front piece
          loop.invariant.state loop.invariant.out (c.in-Err-feed.ensures.went.goes going.0) c.in-Err-feed.halt c.in-Err-feed.ensures.answer);
      unread = search rules;
      failed = search rules;
    }

pub loop-size-preserved : goal.loop-size-preserved
loop-size-preserved g c =
    let loop = c.loop-size in
    let piece : List ℕ = take c.in-Ok-Some.size c.next_piece.new.buffer in
    let came = rw c.in-Ok-Some.field-0-is at c.in-Ok-Some.ensures.bytes in
    let counted = rw c.in-Ok-Some.field-0-is at c.in-Ok-Some.ensures.count in
    let long = length-take-le c.in-Ok-Some.size c.next_piece.new.buffer came.1 in
    let going = c.in_default.ensures.going in
    let on = built_on c.args.limit (g.W.DeviceOut.contents c.args.out.now) loop.builder.state (g.W.DeviceOut.contents loop.out) c.feed.new.self (g.W.DeviceOut.contents c.feed.new.out) loop.invariant.front piece
    loop.invariant.state loop.invariant.out (c.in_default.ensures.went.goes (going_is loop.builder.state.told loop.builder.failed loop.invariant.going).0) going
    in
    let place = c.in_default.ensures.place going in
    let failed = (going_is c.feed.new.self.state.told c.feed.new.self.failed going).0 in
    record {
      front = loop.invariant.front ++ piece;
      calls = gave_on g.R.DeviceIn.gets _ _ _ loop.invariant.front c.next_piece.new.buffer c.in-Ok-Some.size loop.invariant.calls came.0 came.1 (rw c.in-Ok-Some.field-0-is at c.in-Ok-Some.ensures.call);
      given = read_twice _ _ _ loop.invariant.front piece loop.invariant.given came.2;
      state = on.0;
      out = on.1;
      going = going;
      count = let whole = length-append loop.invariant.front piece in omega (arith, whole, long, counted, loop.invariant.count);
      place = omega (arith, place, long, counted, loop.invariant.place);
      within = let most = c.in_default.ensures.within going (omega (arith, loop.invariant.place, loop.invariant.within)) in omega (arith, most, place, long, counted, loop.invariant.place);
      unread = c.in-Ok-Some.ensures.failed ∙ loop.invariant.unread;
      unwritten = not_unwritten c.feed.new.self.failed _ _ failed (c.in_default.ensures.went.failed loop.invariant.going) ∙ loop.invariant.unwritten;
      size = c.next_piece.ensures.kept ∙ loop.invariant.size;
    }
