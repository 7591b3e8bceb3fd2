use Rattle.std.proofs.Common.{rules}
use Rattle.dcm_devices.proofs.Writes.PartsOut.{parts_failed, parts_too_long}
use Rattle.dcm_devices.proofs.calls.put_parts.Goals as goal

pub returns-in_err-put_all-clause-wrote : goal.returns-in_err-put_all-clause-wrote
returns-in_err-put_all-clause-wrote g c =
    record { bytes = parts_failed (λ part. part.now) _ _ _ c.args.parts.now c.loop-part.part-index _ _ c.loop-part-test.true c.loop-part.invariant.out c.from_residual.ensures.0 c.in_err-put_all.ensures.wrote.bytes; failed = search rules }

pub returns-in_err-put_all-clause-room : goal.returns-in_err-put_all-clause-room
returns-in_err-put_all-clause-room g c =
    parts_too_long (λ part. part.now) _ _ _ c.args.parts.now c.loop-part.part-index _ _ _ c.loop-part-test.true c.loop-part.invariant.room c.from_residual.ensures.0 (search rules) c.in_err-put_all.ensures.room
