use Rattle.std.proofs.Common.{◌≡◌, length}
use Rattle.dcm_base.specs.Tables.Representation.{unit}
use Rattle.dcm_base.specs.Tree.Value.{turned}
use Rattle.dcm_sinks.proofs.Conversions.Turned.{PutSoFar}
use Rattle.dcm_sinks.proofs.encode.copier.put_blocks.Given as goal

-- some of the units went out
abbrev pub invariant-loop-rest : goal.invariant-loop-rest
invariant-loop-rest g l = record {
  out : PutSoFar (g.W.DeviceOut.contents l.fn.out) (g.W.DeviceOut.contents l.out) (turned (unit l.vr) l.bytes) (turned (unit l.vr) l.rest);
  failed : g.W.Device.has_failed l.out ≡ g.W.Device.has_failed l.fn.out;
}

abbrev pub decreases-loop-rest : goal.decreases-loop-rest
decreases-loop-rest g l = length l.rest
