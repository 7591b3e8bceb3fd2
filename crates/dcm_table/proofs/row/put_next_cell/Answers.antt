use Rattle.std.proofs.Common.{rules, [], ◌∷◌}
use Rattle.dcm_table.specs.Parts.{some_bytes}
use Rattle.dcm_table.specs.Row as spec
use Rattle.dcm_table.specs.Slots.{slot_of}
use Rattle.dcm_table.proofs.PartsOut.{out_then, out_failed, bytes_went, bytes_broke}
use Rattle.dcm_table.proofs.row.put_next_cell.Goals as goal

pub returns-in_err-put_all : goal.returns-in_err-put_all
returns-in_err-put_all g c = record {
  bytes = out_failed _ _ (some_bytes spec.comma ∷ []) (spec.cell_parts c.args.form c.args.slot.now.sets (slot_of c.args.slot.now).1) _ c.from_residual.ensures.0 (bytes_broke _ _ _ c.in_err-put_all.ensures.wrote.bytes);
  failed = search rules;
}

pub returns : goal.returns
returns g c = record {
  bytes = out_then _ _ _ (some_bytes spec.comma ∷ []) (spec.cell_parts c.args.form c.args.slot.now.sets (slot_of c.args.slot.now).1) _ (bytes_went _ _ _ c.in_ok-put_all.ensures.wrote.bytes) c.put_cell.ensures.bytes;
  failed = search rules;
}
