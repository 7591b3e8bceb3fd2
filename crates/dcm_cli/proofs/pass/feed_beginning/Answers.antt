use Rattle.std.proofs.Common.{rules, ℕ, List, [], ◌∷◌, ◌++◌, Option, sym, subst, take, drop}
use Rattle.std.specs.Prelude.{◌-◌, option_to_list}
use Rattle.dcm_cli.specs.Pass as spec
use Rattle.dcm_cli.proofs.Passes.Fed.{fed_on, fed_failed}
use Rattle.dcm_cli.proofs.pass.feed_beginning.Goals as goal

pub returns-in_err-feed-in-Some : goal.returns-in_err-feed-in-Some
returns-in_err-feed-in-Some g c =
    let rest : List ℕ = take (c.args.beginning.filled - c.args.beginning.used) (drop c.args.beginning.used c.args.buffer.now) in
    let old = c.args.machine.now in
    let new = c.feed-in-Some.new.machine in
    record {
      fed = subst (λ (ahead : Option ℕ). spec.Fed g.S.Sink.bar g.S.Sink.step g.S.Sink.writes old (g.S.Sink.state c.args.sink.now) (g.S.Sink.contents c.args.sink.now) (g.S.Sink.has_failed c.args.sink.now)
          new (g.S.Sink.state c.feed-in-Some.new.sink) (g.S.Sink.contents c.feed-in-Some.new.sink) (g.S.Sink.has_failed c.feed-in-Some.new.sink) (option_to_list ahead ++ rest) c.from_residual.result)
          (sym c.in-Some.is)
          (fed_failed g.S.Sink.bar g.S.Sink.step g.S.Sink.writes old (g.S.Sink.state c.args.sink.now) (g.S.Sink.contents c.args.sink.now) (g.S.Sink.has_failed c.args.sink.now)
          new (g.S.Sink.state c.feed-in-Some.new.sink) (g.S.Sink.contents c.feed-in-Some.new.sink) (g.S.Sink.has_failed c.feed-in-Some.new.sink) (c.in-Some.byte ∷ []) rest c.in_err-feed-in-Some.field-0.0 c.from_residual.result
          c.from_residual.ensures.1 c.in_err-feed-in-Some.ensures.fed);
      kept = search rules;
    }

pub returns-in_ok-feed-in-Some : goal.returns-in_ok-feed-in-Some
returns-in_ok-feed-in-Some g c =
    let rest : List ℕ = take (c.args.beginning.filled - c.args.beginning.used) (drop c.args.beginning.used c.args.buffer.now) in
    let old = c.args.machine.now in
    let mid = c.feed-in-Some.new.machine in
    let new = c.feed-in-Some-2.new.machine in
    record {
      fed = subst (λ (ahead : Option ℕ). spec.Fed g.S.Sink.bar g.S.Sink.step g.S.Sink.writes old (g.S.Sink.state c.args.sink.now) (g.S.Sink.contents c.args.sink.now) (g.S.Sink.has_failed c.args.sink.now)
          new (g.S.Sink.state c.feed-in-Some-2.new.sink) (g.S.Sink.contents c.feed-in-Some-2.new.sink) (g.S.Sink.has_failed c.feed-in-Some-2.new.sink) (option_to_list ahead ++ rest) c.feed-in-Some-2.result)
          (sym c.in-Some.is)
          (fed_on g.S.Sink.bar g.S.Sink.step g.S.Sink.writes old (g.S.Sink.state c.args.sink.now) (g.S.Sink.contents c.args.sink.now) (g.S.Sink.has_failed c.args.sink.now)
          mid (g.S.Sink.state c.feed-in-Some.new.sink) (g.S.Sink.contents c.feed-in-Some.new.sink) (g.S.Sink.has_failed c.feed-in-Some.new.sink)
          new (g.S.Sink.state c.feed-in-Some-2.new.sink) (g.S.Sink.contents c.feed-in-Some-2.new.sink) (g.S.Sink.has_failed c.feed-in-Some-2.new.sink) (c.in-Some.byte ∷ []) rest c.feed-in-Some-2.result
          c.in_ok-feed-in-Some.ensures.fed c.feed-in-Some-2.ensures.fed);
      kept = search rules;
    }
