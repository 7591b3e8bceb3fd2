use Rattle.std.proofs.Common.{◌≡◌, ◌-◌, replicate}
use Rattle.dcm_json.proofs.Written.{SoFar}
use Rattle.dcm_json.proofs.values.put_spaces.Given as goal

-- so many went out
abbrev pub invariant-loop-space : goal.invariant-loop-space
invariant-loop-space g l = record {
  out : SoFar (g.W.DeviceOut.contents l.fn.out) (g.W.DeviceOut.contents l.out) (replicate l.count 32) (replicate (l.count - l._space) 32);
  failed : g.W.Device.has_failed l.out ≡ g.W.Device.has_failed l.fn.out;
}
