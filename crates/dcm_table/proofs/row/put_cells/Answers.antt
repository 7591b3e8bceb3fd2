use Rattle.std.proofs.Common.{rules, refl, ◌∙◌}
use Rattle.dcm_table.proofs.PartsOut.{so_far_none, so_far_more, so_far_failed, so_far_done}
use Rattle.dcm_table.proofs.RowParts.{next_cell, no_cell}
use Rattle.dcm_table.proofs.row.put_cells.Goals as goal

pub loop-slot-init : goal.loop-slot-init
loop-slot-init g c = record { out = so_far_none _ _; failed = refl }

pub loop-slot-preserved : goal.loop-slot-preserved
loop-slot-preserved g c = record {
  out = so_far_more _ _ _ c.loop-slot.invariant.out (next_cell c.args.form c.args.slots.now c.loop-slot.slot-index c.slot-item.result c.loop-slot-test.true c.slot-item.is) c.in_ok-put_next_cell.ensures.bytes;
  failed = c.in_ok-put_next_cell.ensures.failed ∙ c.loop-slot.invariant.failed;
}

pub returns-in_err-put_next_cell : goal.returns-in_err-put_next_cell
returns-in_err-put_next_cell g c = record {
  bytes = so_far_failed _ _ _ _ c.loop-slot.invariant.out (next_cell c.args.form c.args.slots.now c.loop-slot.slot-index c.slot-item.result c.loop-slot-test.true c.slot-item.is) c.from_residual.ensures.0 c.in_err-put_next_cell.ensures.bytes;
  failed = search rules;
}

pub returns : goal.returns
returns g c = record {
  bytes = so_far_done c.loop-slot.invariant.out (no_cell c.args.form c.args.slots.now c.loop-slot.slot-index c.loop-slot-test.false);
  failed = c.loop-slot.invariant.failed;
}
