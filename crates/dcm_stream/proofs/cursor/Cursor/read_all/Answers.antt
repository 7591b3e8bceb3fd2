use Rattle.std.proofs.Common.{◌≡◌, ◌++◌, ◌∙◌, ap, sym, refl, ℕ, take, [], append_assoc, List, None, Result, Ok, Err}
use Rattle.std.proofs.lemmas.List.{take-append-drop, append-nil}
use Rattle.dcm_stream.specs.Halts.{Halt}
use Rattle.dcm_stream.specs.Machine.{reading}
use Rattle.dcm_stream.proofs.Runs.Parts.{feeds_on}
use Rattle.dcm_stream.proofs.Runs.StaysSmall.{stands_behind}
use Rattle.dcm_stream.proofs.Runs.Calls.{empty_by, fed_nothing, fails_with, tells_with}
use Rattle.dcm_stream.proofs.cursor.Cursor.read_all.Goals as goal

pub loop-rest-init : goal.loop-rest-init
loop-rest-init g c = record {
  front = [];
  whole = refl;
  goes = fed_nothing g.S.Sink.bar g.S.Sink.step g.S.Sink.writes c.args.self.now (g.S.Sink.state c.args.sink.now) (g.S.Sink.contents c.args.sink.now);
  stands = c.requires.stands;
  failed = refl;
  kept = refl;
}

pub returns-in_err-n : goal.returns-in_err-n
returns-in_err-n g c =
    let rest = c.loop-rest.rest.now in
    let front = c.loop-rest.invariant.front in
    let failed : Result ℕ Halt = Err c.in_err-n.field-0.0 in
    let fed = feeds_on g.S.Sink.bar g.S.Sink.step g.S.Sink.writes (reading c.args.self.now None) (g.S.Sink.state c.args.sink.now) (g.S.Sink.contents c.args.sink.now) (reading c.loop-rest.self None) (g.S.Sink.state c.loop-rest.sink) (g.S.Sink.contents c.loop-rest.sink)
    (reading c.read_some.new.self) (g.S.Sink.state c.read_some.new.sink) (g.S.Sink.contents c.read_some.new.sink) front rest failed c.loop-rest.invariant.goes.0 c.loop-rest.invariant.goes.1 c.in_err-n.ensures.fed.feeds in
    record {
      fed = record {
        feeds = rw c.loop-rest.invariant.whole (fails_with g.S.Sink.bar g.S.Sink.step g.S.Sink.writes ℕ (reading c.args.self.now None) (g.S.Sink.state c.args.sink.now) (g.S.Sink.contents c.args.sink.now) c.read_some.new.self (g.S.Sink.state c.read_some.new.sink) (g.S.Sink.contents c.read_some.new.sink) (front ++ rest) c.in_err-n.field-0.0 c.from_residual.result c.from_residual.ensures.1 fed);
        failed = tells_with ℕ _ _ _ c.in_err-n.field-0.0 c.from_residual.result c.from_residual.ensures.1 c.loop-rest.invariant.failed c.in_err-n.ensures.fed.failed;
        kept = c.in_err-n.ensures.fed.kept ∙ c.loop-rest.invariant.kept;
      };
    }

pub loop-rest-preserved : goal.loop-rest-preserved
loop-rest-preserved g c =
    let n : ℕ = c.in_ok-n.n in
    let rest = c.loop-rest.rest.now in
    let front = c.loop-rest.invariant.front in
    let went : Result (Unit {0}) Halt = Ok (tt {0}) in
    record {
      front = front ++ take n rest;
      whole = c.loop-rest.invariant.whole ∙ ap (λ (xs : List ℕ). front ++ xs) (sym (take-append-drop n rest) ∙ ap (λ (xs : List ℕ). take n rest ++ xs) (sym c.split_at.ensures.back)) ∙ sym (append_assoc front (take n rest) c.split_at.result.1.now);
      goes = feeds_on g.S.Sink.bar g.S.Sink.step g.S.Sink.writes (reading c.args.self.now None) (g.S.Sink.state c.args.sink.now) (g.S.Sink.contents c.args.sink.now) (reading c.loop-rest.self None) (g.S.Sink.state c.loop-rest.sink) (g.S.Sink.contents c.loop-rest.sink)
          (reading c.read_some.new.self) (g.S.Sink.state c.read_some.new.sink) (g.S.Sink.contents c.read_some.new.sink) front (take n rest) went c.loop-rest.invariant.goes.0 c.loop-rest.invariant.goes.1 c.in_ok-n.ensures.fed.feeds;
      stands = stands_behind g.S.Sink.bar g.S.Sink.step g.S.Sink.writes (reading c.loop-rest.self None) (g.S.Sink.state c.loop-rest.sink) (take n rest) (reading c.read_some.new.self None) (g.S.Sink.state c.read_some.new.sink) c.loop-rest.invariant.stands c.in_ok-n.ensures.fed.feeds.0;
      failed = c.in_ok-n.ensures.fed.failed ∙ c.loop-rest.invariant.failed;
      kept = c.in_ok-n.ensures.fed.kept ∙ c.loop-rest.invariant.kept;
    }

pub returns : goal.returns
returns g c =
    let rest = c.loop-rest.rest.now in
    let front = c.loop-rest.invariant.front in
    let none : rest ≡ [] = empty_by rest (sym c.loop-rest-test.false ∙ c.is_empty.ensures) in
    record {
      fed = record {
        feeds = rw (c.loop-rest.invariant.whole, none, append-nil) c.loop-rest.invariant.goes;
        failed = c.loop-rest.invariant.failed;
        kept = c.loop-rest.invariant.kept;
      };
    }
