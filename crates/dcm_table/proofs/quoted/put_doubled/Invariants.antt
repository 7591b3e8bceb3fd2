use Rattle.std.proofs.Common.{◌≡◌, take}
use Rattle.std.specs.Io.KnownBytes.{append_known}
use Rattle.dcm_table.specs.Quoted as spec
use Rattle.dcm_table.proofs.quoted.put_doubled.Given as goal

-- the bytes so far went out
abbrev pub invariant-loop-byte : goal.invariant-loop-byte
invariant-loop-byte g l = record {
  out : g.W.DeviceOut.contents l.out ≡ append_known (g.W.DeviceOut.contents l.fn.out) (spec.doubled (take l.byte-index l.bytes));
  failed : g.W.Device.has_failed l.out ≡ g.W.Device.has_failed l.fn.out;
}
