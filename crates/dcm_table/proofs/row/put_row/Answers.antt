use Rattle.std.proofs.Common.{rules, subst, List}
use Rattle.dcm_table.specs.Parts.{AppendsParts, AppendsFrontOfParts}
use Rattle.dcm_table.specs.Quoted.{quoted, text_in}
use Rattle.dcm_table.specs.Row as spec
use Rattle.dcm_table.specs.TableSink.{Slot}
use Rattle.dcm_table.proofs.PartsOut.{between_failed_first, between_failed, between_went}
use Rattle.dcm_table.proofs.row.put_row.Goals as goal

pub returns-in_err-put_quoted : goal.returns-in_err-put_quoted
returns-in_err-put_quoted g c = record {
  bytes = between_failed_first _ _ (quoted (text_in c.args.form c.args.name.now)) spec.newline (spec.cells_parts c.args.form c.args.cells.now.slots) _ c.from_residual.ensures.0 c.in_err-put_quoted.ensures.bytes;
  failed = search rules;
}

pub returns-in_err-put_cells : goal.returns-in_err-put_cells
returns-in_err-put_cells g c = record {
  bytes = between_failed _ _ _ (quoted (text_in c.args.form c.args.name.now)) spec.newline (spec.cells_parts c.args.form c.args.cells.now.slots) _ c.from_residual-in_err-put_cells.ensures.0 c.in_ok-put_quoted.ensures.bytes
      (subst (λ (x : List Slot). AppendsFrontOfParts (g.W.DeviceOut.contents c.put_quoted.new.out) (g.W.DeviceOut.contents c.put_cells.new.out) (spec.cells_parts c.args.form x)) c.slots.ensures c.in_err-put_cells.ensures.bytes);
  failed = search rules;
}

pub returns : goal.returns
returns g c = record {
  bytes = between_went _ _ _ _ (quoted (text_in c.args.form c.args.name.now)) spec.newline (spec.cells_parts c.args.form c.args.cells.now.slots) _ c.in_ok-put_quoted.ensures.bytes
      (subst (λ (x : List Slot). AppendsParts (g.W.DeviceOut.contents c.put_quoted.new.out) (g.W.DeviceOut.contents c.put_cells.new.out) (spec.cells_parts c.args.form x)) c.slots.ensures c.in_ok-put_cells.ensures.bytes)
      c.put_all.ensures.wrote.bytes;
  failed = search rules;
}
