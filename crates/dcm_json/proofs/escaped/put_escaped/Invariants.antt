use Rattle.std.proofs.Common.{◌≡◌, length}
use Rattle.json.specs.Print.{escape}
use Rattle.dcm_json.proofs.Written.{SoFar}
use Rattle.dcm_json.proofs.escaped.put_escaped.Given as goal

-- the bytes so far went out
abbrev pub invariant-loop-rest : goal.invariant-loop-rest
invariant-loop-rest g l = record {
  out : SoFar (g.W.DeviceOut.contents l.fn.out) (g.W.DeviceOut.contents l.out) (escape l.bytes) (escape l.rest);
  failed : g.W.Device.has_failed l.out ≡ g.W.Device.has_failed l.fn.out;
}

abbrev pub decreases-loop-rest : goal.decreases-loop-rest
decreases-loop-rest g l = length l.rest
