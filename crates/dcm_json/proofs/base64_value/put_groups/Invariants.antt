use Rattle.std.proofs.Common.{◌≡◌, ◌%◌, length}
use Rattle.base64.specs.Engines.{standard}
use Rattle.base64.specs.GeneralPurpose.{encode_of}
use Rattle.dcm_json.proofs.Written.{SoFar}
use Rattle.dcm_json.proofs.base64_value.put_groups.Given as goal

-- the groups so far went out
abbrev pub invariant-loop-rest : goal.invariant-loop-rest
invariant-loop-rest g l = record {
  out : SoFar (g.W.DeviceOut.contents l.fn.out) (g.W.DeviceOut.contents l.out) (encode_of standard l.groups) (encode_of standard l.rest);
  whole : length l.rest % 3 ≡ 0;
  failed : g.W.Device.has_failed l.out ≡ g.W.Device.has_failed l.fn.out;
}

abbrev pub decreases-loop-rest : goal.decreases-loop-rest
decreases-loop-rest g l = length l.rest
