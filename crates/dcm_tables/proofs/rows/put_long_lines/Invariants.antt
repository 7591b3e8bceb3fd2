use Rattle.std.proofs.Common.{◌≡◌, take, drop, []}
use Rattle.dcm_tables.specs.Rows.{long_lines}
use Rattle.dcm_tables.proofs.LinesOut.{SoFar}
use Rattle.dcm_tables.proofs.rows.put_long_lines.Given as goal

-- the lines of the columns so far were written
abbrev pub invariant-loop-column : goal.invariant-loop-column
invariant-loop-column g l = record {
  out : SoFar (g.E.DeviceOut.contents l.fn.errors) (g.E.DeviceOut.contents l.errors) (long_lines l.name [] l.cells.slots) (long_lines l.name (take l.column l.cells.slots) (drop l.column l.cells.slots));
  fine : g.E.Device.has_failed l.errors ≡ g.E.Device.has_failed l.fn.errors;
}
