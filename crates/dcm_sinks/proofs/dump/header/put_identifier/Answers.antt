use Rattle.std.proofs.Common.{rules}
use Rattle.dcm_base.specs.Dump.Header.{identifier_byte}
use Rattle.dcm_devices.proofs.Writes.PartsOut.{parts_failed}
use Rattle.dcm_sinks.proofs.dump.header.put_identifier.Goals as goal

pub returns-in_err-put_identifier_byte : goal.returns-in_err-put_identifier_byte
returns-in_err-put_identifier_byte g c =
    record { bytes = parts_failed identifier_byte _ _ _ c.args.uid.now c.loop-byte.byte-index 0 _ c.loop-byte-test.true c.loop-byte.invariant.out c.from_residual.ensures.0 c.in_err-put_identifier_byte.ensures.bytes; failed = search rules }
