use Rattle.std.proofs.Common.{◌≡◌, drop}
use Rattle.dcm_table.specs.Row as spec
use Rattle.dcm_table.specs.Slots.{slots_of}
use Rattle.dcm_table.proofs.PartsOut.{SoFar}
use Rattle.dcm_table.proofs.row.put_cells.Given as goal

-- the cells so far went out
abbrev pub invariant-loop-slot : goal.invariant-loop-slot
invariant-loop-slot g l = record {
  out : SoFar (g.W.DeviceOut.contents l.fn.out) (g.W.DeviceOut.contents l.out) (spec.cells_parts l.form (slots_of l.slots)) (spec.cells_parts l.form (slots_of (drop l.slot-index l.slots)));
  failed : g.W.Device.has_failed l.out ≡ g.W.Device.has_failed l.fn.out;
}
