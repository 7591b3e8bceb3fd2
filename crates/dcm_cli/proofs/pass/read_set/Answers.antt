use Rattle.std.proofs.Common.{rules, ◌≡◌, ℕ, List, [], ◌++◌, Some, None, ap, sym, subst, true, false, Err}
use Rattle.std.specs.Prelude.{fold}
use Rattle.std.proofs.lemmas.List.{append-nil}
use Rattle.dcm_stream.specs.Reading.{Reading, start_of}
use Rattle.dcm_stream.specs.Machine.{Progress, steps}
use Rattle.dcm_cli.specs.InputCalls.{in_part}
use Rattle.dcm_cli.specs.Pass as spec
use Rattle.dcm_cli.proofs.Passes.Passes.{ends_at_end, ends_halted, ends_behind, going_behind}
use Rattle.dcm_cli.proofs.Passes.Readers.{members, nothing_read, for_another}
use Rattle.dcm_cli.proofs.pass.read_set.Goals as goal

pub returns-in-Err : goal.returns-in-Err
returns-in-Err g c =
    let bytes : List ℕ = spec.set_bytes c.args.beginning c.args.buffer.now in
    let first = ap (λ (p : Progress). p.reading) c.new-machine.ensures in
    let Needed : List ℕ → Type 0 = spec.SetGoesOn g.S.Sink.bar g.S.Sink.step c.args.beginning.is_over bytes (start_of c.args.coding.syntax c.args.start) (g.S.Sink.state c.args.sink.now) in
    let ends : (rest : List ℕ) → (c.args.beginning.is_over ≡ true → rest ≡ []) → spec.Ends g.S.Sink.bar g.S.Sink.step g.S.Sink.writes c.new-machine.result.reading (g.S.Sink.state c.args.sink.now) (g.S.Sink.contents c.args.sink.now)
    (Some rest) (g.S.Sink.state c.feed_beginning.new.sink) (g.S.Sink.contents c.feed_beginning.new.sink) bytes (spec.ending_of (Err c.in-Err.halt)) = λ rest none.
    ends_halted g.S.Sink.bar g.S.Sink.step g.S.Sink.writes c.new-machine.result (g.S.Sink.state c.args.sink.now) (g.S.Sink.contents c.args.sink.now) (g.S.Sink.has_failed c.args.sink.now)
    c.feed_beginning.new.machine (g.S.Sink.state c.feed_beginning.new.sink) (g.S.Sink.contents c.feed_beginning.new.sink) (g.S.Sink.has_failed c.feed_beginning.new.sink) bytes
    (Some rest) c.in-Err.halt c.in-Err.ensures.fed
    in
    record {
      ends = record {
        more = [];
        how = in_part;
        reads = nothing_read (members g.R.Device g.R.DeviceIn) Needed c.args.input.now;
        ends = λ rest ok none. subst (λ ending. spec.Ends g.S.Sink.bar g.S.Sink.step g.S.Sink.writes (start_of c.args.coding.syntax c.args.start) (g.S.Sink.state c.args.sink.now) (g.S.Sink.contents c.args.sink.now)
            (Some rest) (g.S.Sink.state c.feed_beginning.new.sink) (g.S.Sink.contents c.feed_beginning.new.sink) (bytes ++ []) ending) (sym c.ending_of.ensures)
            (subst (λ xs. spec.Ends g.S.Sink.bar g.S.Sink.step g.S.Sink.writes (start_of c.args.coding.syntax c.args.start) (g.S.Sink.state c.args.sink.now) (g.S.Sink.contents c.args.sink.now)
            (Some rest) (g.S.Sink.state c.feed_beginning.new.sink) (g.S.Sink.contents c.feed_beginning.new.sink) xs (spec.ending_of (Err c.in-Err.halt))) (sym (append-nil bytes))
            (subst (λ (r : Reading). spec.Ends g.S.Sink.bar g.S.Sink.step g.S.Sink.writes r (g.S.Sink.state c.args.sink.now) (g.S.Sink.contents c.args.sink.now)
            (Some rest) (g.S.Sink.state c.feed_beginning.new.sink) (g.S.Sink.contents c.feed_beginning.new.sink) bytes (spec.ending_of (Err c.in-Err.halt))) first (ends rest none)));
      };
      over = search rules;
      unread = search rules;
      failed = search rules;
      kept = search rules;
    }

pub returns-then-beginning : goal.returns-then-beginning
returns-then-beginning g c =
    let bytes : List ℕ = spec.set_bytes c.args.beginning c.args.buffer.now in
    let first = ap (λ (p : Progress). p.reading) c.new-machine.ensures in
    let Needed : List ℕ → Type 0 = spec.SetGoesOn g.S.Sink.bar g.S.Sink.step c.args.beginning.is_over bytes (start_of c.args.coding.syntax c.args.start) (g.S.Sink.state c.args.sink.now) in
    let ends : (rest : List ℕ) → (c.args.beginning.is_over ≡ true → rest ≡ []) → spec.Ends g.S.Sink.bar g.S.Sink.step g.S.Sink.writes c.new-machine.result.reading (g.S.Sink.state c.args.sink.now) (g.S.Sink.contents c.args.sink.now)
    (Some rest) (g.S.Sink.state c.end.new.sink) (g.S.Sink.contents c.end.new.sink) bytes (spec.ending_of c.end.result) = λ rest none.
    ends_at_end g.S.Sink.bar g.S.Sink.step g.S.Sink.writes c.new-machine.result (g.S.Sink.state c.args.sink.now) (g.S.Sink.contents c.args.sink.now) (g.S.Sink.has_failed c.args.sink.now)
    c.feed_beginning.new.machine (g.S.Sink.state c.feed_beginning.new.sink) (g.S.Sink.contents c.feed_beginning.new.sink) (g.S.Sink.has_failed c.feed_beginning.new.sink) bytes
    (Some rest) (g.S.Sink.state c.end.new.sink) (g.S.Sink.contents c.end.new.sink) c.end.result (none c.if-beginning.true) c.in_default.ensures.fed c.end.ensures.ends
    in
    record {
      ends = record {
        more = [];
        how = in_part;
        reads = nothing_read (members g.R.Device g.R.DeviceIn) Needed c.args.input.now;
        ends = λ rest ok none. subst (λ ending. spec.Ends g.S.Sink.bar g.S.Sink.step g.S.Sink.writes (start_of c.args.coding.syntax c.args.start) (g.S.Sink.state c.args.sink.now) (g.S.Sink.contents c.args.sink.now)
            (Some rest) (g.S.Sink.state c.end.new.sink) (g.S.Sink.contents c.end.new.sink) (bytes ++ []) ending) (sym c.ending_of-then-beginning.ensures)
            (subst (λ xs. spec.Ends g.S.Sink.bar g.S.Sink.step g.S.Sink.writes (start_of c.args.coding.syntax c.args.start) (g.S.Sink.state c.args.sink.now) (g.S.Sink.contents c.args.sink.now)
            (Some rest) (g.S.Sink.state c.end.new.sink) (g.S.Sink.contents c.end.new.sink) xs (spec.ending_of c.end.result)) (sym (append-nil bytes))
            (subst (λ (r : Reading). spec.Ends g.S.Sink.bar g.S.Sink.step g.S.Sink.writes r (g.S.Sink.state c.args.sink.now) (g.S.Sink.contents c.args.sink.now)
            (Some rest) (g.S.Sink.state c.end.new.sink) (g.S.Sink.contents c.end.new.sink) bytes (spec.ending_of c.end.result)) first (ends rest none)));
      };
      over = search rules;
      unread = search rules;
      failed = search rules;
      kept = search rules;
    }

pub returns : goal.returns
returns g c =
    let bytes : List ℕ = spec.set_bytes c.args.beginning c.args.buffer.now in
    let first = ap (λ (p : Progress). p.reading) c.new-machine.ensures in
    let rest_read = c.read_rest.ensures.reads in
    let Going : List ℕ → Type 0 = spec.SetGoesOn g.S.Sink.bar g.S.Sink.step false [] c.feed_beginning.new.machine.reading (g.S.Sink.state c.feed_beginning.new.sink) in
    let Needed : List ℕ → Type 0 = spec.SetGoesOn g.S.Sink.bar g.S.Sink.step c.args.beginning.is_over bytes (start_of c.args.coding.syntax c.args.start) (g.S.Sink.state c.args.sink.now) in
    let going : (more : List ℕ) → Going more → Needed more = λ more h. (
      c.if-beginning.false,
      subst (λ (r : Reading). (fold (steps g.S.Sink.bar g.S.Sink.step) (r, g.S.Sink.state c.args.sink.now) (bytes ++ more)).0.halt ≡ None) first
          (going_behind g.S.Sink.bar g.S.Sink.step g.S.Sink.writes c.new-machine.result (g.S.Sink.state c.args.sink.now) (g.S.Sink.contents c.args.sink.now) (g.S.Sink.has_failed c.args.sink.now)
          c.feed_beginning.new.machine (g.S.Sink.state c.feed_beginning.new.sink) (g.S.Sink.contents c.feed_beginning.new.sink) (g.S.Sink.has_failed c.feed_beginning.new.sink) bytes more c.in_default.ensures.fed h.1),
    ) in
    record {
      ends = record {
        more = rest_read.more;
        how = rest_read.how;
        reads = for_another (members g.R.Device g.R.DeviceIn) Going Needed _ _ rest_read.more rest_read.how going rest_read.reads;
        ends = λ rest ok none. subst (λ (r : Reading). spec.Ends g.S.Sink.bar g.S.Sink.step g.S.Sink.writes r (g.S.Sink.state c.args.sink.now) (g.S.Sink.contents c.args.sink.now)
            (Some rest) (g.S.Sink.state c.read_rest.new.sink) (g.S.Sink.contents c.read_rest.new.sink) (bytes ++ rest_read.more) c.read_rest.result) first
            (ends_behind g.S.Sink.bar g.S.Sink.step g.S.Sink.writes c.new-machine.result (g.S.Sink.state c.args.sink.now) (g.S.Sink.contents c.args.sink.now) (g.S.Sink.has_failed c.args.sink.now)
            c.feed_beginning.new.machine (g.S.Sink.state c.feed_beginning.new.sink) (g.S.Sink.contents c.feed_beginning.new.sink) (g.S.Sink.has_failed c.feed_beginning.new.sink) bytes rest_read.more c.in_default.ensures.fed
            (Some rest) (g.S.Sink.state c.read_rest.new.sink) (g.S.Sink.contents c.read_rest.new.sink) c.read_rest.result
            (rest_read.ends rest ok (λ over. absurd (let no : false ≡ true = over in cc))));
      };
      over = search rules;
      unread = search rules;
      failed = search rules;
      kept = search rules;
    }
