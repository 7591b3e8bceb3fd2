use Rattle.std.proofs.Common.{rules}
use Rattle.dcm_devices.proofs.Writes.PartsOut.{parts_failed}
use Rattle.dcm_table.specs.Quoted as spec
use Rattle.dcm_table.proofs.quoted.put_doubled.Goals as goal

pub returns-in_err-put_doubled_byte : goal.returns-in_err-put_doubled_byte
returns-in_err-put_doubled_byte g c =
    record { bytes = parts_failed spec.doubled_byte _ _ _ c.args.bytes.now c.loop-byte.byte-index 0 _ c.loop-byte-test.true c.loop-byte.invariant.out c.from_residual.ensures.0 c.in_err-put_doubled_byte.ensures.bytes; failed = search rules }
