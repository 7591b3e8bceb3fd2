use Rattle.std.proofs.Common.{rules, ◌∙◌}
use Rattle.dcm_stream.proofs.Runs.Tokens.{handed_more, handed_failed}
use Rattle.dcm_stream.proofs.taking.take_all.Goals as goal

pub returns-in_err-take : goal.returns-in_err-take
returns-in_err-take g c =
    record { takes = handed_failed g.S.Sink.step g.S.Sink.writes (g.S.Sink.state c.args.sink.now) _ _ _ (g.S.Sink.state c.take.new.self) _ c.args.tokens.now c.loop-token.token-index _ _ c.loop-token-test.true c.loop-token.invariant.state c.loop-token.invariant.bytes c.from_residual.ensures.0 c.in_err-take.ensures.bytes; failed = search rules; kept = search rules }

pub loop-token-preserved : goal.loop-token-preserved
loop-token-preserved g c =
    let more = handed_more g.S.Sink.step g.S.Sink.writes (g.S.Sink.state c.args.sink.now) _ _ _ (g.S.Sink.state c.take.new.self) _ c.args.tokens.now c.loop-token.token-index _ c.loop-token-test.true c.loop-token.invariant.state c.loop-token.invariant.bytes
    c.in_ok-take.ensures.state c.in_ok-take.ensures.bytes in
    record {
      state = more.0;
      bytes = more.1;
      failed = c.in_ok-take.ensures.failed ∙ c.loop-token.invariant.failed;
      kept = c.in_ok-take.ensures.kept ∙ c.loop-token.invariant.kept;
    }
