use Rattle.std.proofs.Common.{rules}
use Rattle.dcm_devices.proofs.Writes.Puts.{puts_behind}
use Rattle.dcm_table.proofs.Texts.{two_failed}
use Rattle.dcm_names.specs.NamedLines.{unknown_lines}
use Rattle.dcm_tables.specs.Rows.{end_lines}
use Rattle.dcm_tables.proofs.rows.put_last_lines.Goals as goal

pub returns-in_err-put_unknown : goal.returns-in_err-put_unknown
returns-in_err-put_unknown g c = record {
  bytes = two_failed _ _ (unknown_lines c.args.name.now c.args.unknown) (end_lines c.args.name.now c.args.«end») _ c.from_residual.ensures.0 c.in_err-put_unknown.ensures.bytes;
  failed = search rules;
}

pub returns : goal.returns
returns g c = record {
  bytes = puts_behind _ _ _ (unknown_lines c.args.name.now c.args.unknown) (end_lines c.args.name.now c.args.«end») _ c.in_ok-put_unknown.ensures.bytes c.put_end_line.ensures.bytes;
  failed = search rules;
}
