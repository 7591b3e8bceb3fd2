use Rattle.std.proofs.Common.{◌≡◌, take}
use Rattle.std.specs.Prelude.{flat_map}
use Rattle.std.specs.Io.KnownBytes.{append_known}
use Rattle.dcm_base.specs.Dump.Header.{identifier_byte}
use Rattle.dcm_sinks.proofs.dump.header.put_identifier.Given as goal

-- the bytes so far went out
abbrev pub invariant-loop-byte : goal.invariant-loop-byte
invariant-loop-byte g l = record {
  out : g.W.DeviceOut.contents l.out ≡ append_known (g.W.DeviceOut.contents l.fn.out) (flat_map identifier_byte (take l.byte-index l.uid));
  failed : g.W.Device.has_failed l.out ≡ g.W.Device.has_failed l.fn.out;
}
