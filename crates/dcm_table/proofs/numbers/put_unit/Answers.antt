use Rattle.std.proofs.Common.{◌∙◌}
use Rattle.dcm_table.proofs.NumberParts.{plain_out}
use Rattle.dcm_table.proofs.numbers.put_unit.Goals as goal

pub returns-in_default : goal.returns-in_default
returns-in_default g c = record {
  bytes = plain_out c.args.vr c.args.unit.now c.as_slice.result.now _ _ _ c.in_default.not-FL c.in_default.not-FD (c.as_slice.ensures.value ∙ c.unit_text.ensures) c.put_all.ensures.wrote.bytes;
  failed = c.put_all.ensures.wrote.failed;
}
