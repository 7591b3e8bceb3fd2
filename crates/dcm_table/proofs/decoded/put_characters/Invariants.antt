use Rattle.std.proofs.Common.{◌≡◌, true}
use Rattle.std.specs.Prelude.{flat_map}
use Rattle.dcm_text.specs.Runs.{run, state_of, bytes_left}
use Rattle.dcm_text.specs.Shown.{cell, cell_piece}
use Rattle.dcm_table.specs.Quoted as spec
use Rattle.dcm_sinks.proofs.DecodedDumps.Characters.{TextSoFar}
use Rattle.dcm_table.proofs.decoded.put_characters.Given as goal

-- the pieces so far went out
abbrev pub invariant-loop-part : goal.invariant-loop-part
invariant-loop-part g l = record {
  out : TextSoFar (g.W.DeviceOut.contents l.fn.out) (g.W.DeviceOut.contents l.out)
      (spec.doubled (cell l.fn.sets l.fn.kind l.fn.text)) (spec.doubled (flat_map cell_piece (run true (state_of l.decoder) l.rest).0));
  failed : g.W.Device.has_failed l.out ≡ g.W.Device.has_failed l.fn.out;
}

abbrev pub decreases-loop-part : goal.decreases-loop-part
decreases-loop-part g l = bytes_left l.decoder l.rest
