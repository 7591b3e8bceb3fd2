use Rattle.std.proofs.Common.{rules}
use Rattle.dcm_devices.proofs.Writes.PartsOut.{parts_failed}
use Rattle.dcm_table.specs.Row as spec
use Rattle.dcm_table.proofs.row.put_header_cells.Goals as goal

pub returns-in_err-put_header_cell : goal.returns-in_err-put_header_cell
returns-in_err-put_header_cell g c =
    record { bytes = parts_failed spec.header_cell _ _ _ c.args.columns.now c.loop-column.column-index _ _ c.loop-column-test.true c.loop-column.invariant.out c.from_residual.ensures.0 c.in_err-put_header_cell.ensures.bytes; failed = search rules }
