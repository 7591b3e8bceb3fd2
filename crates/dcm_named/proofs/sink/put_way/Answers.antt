use Rattle.std.proofs.Common.{rules}
use Rattle.dcm_named.specs.Naming.{outside_text}
use Rattle.dcm_devices.proofs.Writes.PartsOut.{parts_failed}
use Rattle.dcm_named.proofs.Putting.{no_state}
use Rattle.dcm_named.proofs.sink.put_way.Goals as goal

pub returns-in_err-put_step : goal.returns-in_err-put_step
returns-in_err-put_step g c =
    record {
      state = no_state _ c.from_residual.result c.from_residual.ensures.0;
      bytes = parts_failed outside_text _ _ _ c.args.way.now c.loop-outside.outside-index _ _ c.loop-outside-test.true c.loop-outside.invariant.bytes c.from_residual.ensures.0 c.in_err-put_step.ensures.bytes;
      failed = search rules;
      kept = search rules;
    }
