use Rattle.std.proofs.Common.{◌∙◌, Err, refl, rules}
use Rattle.dcm_devices.proofs.Writes.Puts.{puts_err}
use Rattle.dcm_stream.proofs.Runs.Tokens.{handed_more, handed_failed}
use Rattle.dcm_sinks.specs.EncodeSink.{encode_step, encode_writes}
use Rattle.dcm_sinks.specs.Encoder.{state}
use Rattle.dcm_build.proofs.file.put_tokens.Goals as goal

pub returns-in_err-take-clause-wrote : goal.returns-in_err-take-clause-wrote
returns-in_err-take-clause-wrote g c = record {
  bytes =
      puts_err _ _ _ c.from_residual.result c.from_residual.ensures.0
      (handed_failed encode_step encode_writes {T = Unit {0}} {E = Unit {0}} (state c.args.encoder.now) _ _ _ (state c.take.new.self) _ c.args.tokens.now c.loop-token.token-index _ (Err tt) c.loop-token-test.true
      c.loop-token.invariant.state c.loop-token.invariant.bytes refl c.in_err-take.ensures.bytes);
  failed = search rules;
}

pub loop-token-preserved : goal.loop-token-preserved
loop-token-preserved g c =
    let more = handed_more encode_step encode_writes (state c.args.encoder.now) _ _ _ (state c.take.new.self) _ c.args.tokens.now c.loop-token.token-index _ c.loop-token-test.true c.loop-token.invariant.state c.loop-token.invariant.bytes
    c.in_ok-take.ensures.state c.in_ok-take.ensures.bytes in
    record {
      state = more.0;
      bytes = more.1;
      failed = c.in_ok-take.ensures.failed ∙ c.loop-token.invariant.failed;
    }
