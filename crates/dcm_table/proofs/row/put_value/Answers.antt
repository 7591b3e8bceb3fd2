use Rattle.std.proofs.Common.{sym}
use Rattle.dcm_table.specs.Row as spec
use Rattle.dcm_table.proofs.RowParts.{text_out, numbers_out}
use Rattle.dcm_table.proofs.row.put_value.Goals as goal

pub returns-then-is_quoted_text : goal.returns-then-is_quoted_text
returns-then-is_quoted_text g c = record {
  bytes = text_out (spec.is_quoted_text c.args.vr) c.args.form c.args.sets c.args.vr c.args.value.now c.without_pads.result.now _ _ _ (sym c.if-is_quoted_text.ensures) c.without_pads.ensures.value c.put_text.ensures.bytes;
  failed = c.put_text.ensures.failed;
}

pub returns-else-is_quoted_text : goal.returns-else-is_quoted_text
returns-else-is_quoted_text g c = record {
  bytes = numbers_out (spec.is_quoted_text c.args.vr) c.args.form c.args.sets c.args.vr c.args.value.now _ _ _ (sym c.if-is_quoted_text.ensures) c.put_units.ensures.bytes;
  failed = c.put_units.ensures.failed;
}
