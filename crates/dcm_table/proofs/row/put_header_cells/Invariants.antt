use Rattle.std.proofs.Common.{◌≡◌, take}
use Rattle.std.specs.Prelude.{flat_map}
use Rattle.std.specs.Io.KnownBytes.{append_known}
use Rattle.dcm_table.specs.Row as spec
use Rattle.dcm_table.proofs.row.put_header_cells.Given as goal

-- the cells so far went out
abbrev pub invariant-loop-column : goal.invariant-loop-column
invariant-loop-column g l = record {
  out : g.W.DeviceOut.contents l.out ≡ append_known (g.W.DeviceOut.contents l.fn.out) (flat_map spec.header_cell (take l.column-index l.columns));
  failed : g.W.Device.has_failed l.out ≡ g.W.Device.has_failed l.fn.out;
}
