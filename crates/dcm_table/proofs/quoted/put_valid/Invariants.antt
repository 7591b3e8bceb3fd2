use Rattle.std.proofs.Common.{◌≡◌, length}
use Rattle.dcm_table.specs.Quoted as spec
use Rattle.dcm_sinks.proofs.DecodedDumps.Characters.{TextSoFar}
use Rattle.dcm_table.proofs.quoted.put_valid.Given as goal

-- the bytes so far went out
abbrev pub invariant-loop-error : goal.invariant-loop-error
invariant-loop-error g l = record {
  out : TextSoFar (g.W.DeviceOut.contents l.fn.out) (g.W.DeviceOut.contents l.out) (spec.doubled (spec.valid_utf8 l.bytes)) (spec.doubled (spec.valid_utf8 l.rest));
  failed : g.W.Device.has_failed l.out ≡ g.W.Device.has_failed l.fn.out;
}

abbrev pub decreases-loop-error : goal.decreases-loop-error
decreases-loop-error g l = length l.rest
