use Rattle.std.proofs.Common.{◌≡◌, length, take}
use Rattle.std.specs.Prelude.{flat_map}
use Rattle.std.specs.Io.KnownBytes.{append_known}
use Rattle.dcm_devices.proofs.Writes.Puts.{RoomLeft}
use Rattle.dcm_devices.proofs.calls.put_parts.Given as goal

-- the parts so far went out
abbrev pub invariant-loop-part : goal.invariant-loop-part
invariant-loop-part g l = record {
  out : g.W.DeviceOut.contents l.out ≡ append_known (g.W.DeviceOut.contents l.fn.out) (flat_map (λ part. part.now) (take l.part-index l.parts));
  room : RoomLeft (g.W.DeviceOut.room l.fn.out) (g.W.DeviceOut.room l.out) (length (flat_map (λ part. part.now) (take l.part-index l.parts)));
  failed : g.W.Device.has_failed l.out ≡ g.W.Device.has_failed l.fn.out;
}
