use Rattle.std.proofs.Common.{rules}
use Rattle.dcm_table.proofs.NumberParts.{joined_failed, joined_went}
use Rattle.dcm_table.proofs.numbers.put_joined.Goals as goal

pub returns-in_err-put_unit : goal.returns-in_err-put_unit
returns-in_err-put_unit g c = record {
  bytes = joined_failed c.args.vr c.args.value.now c.split_at.result.0.now c.split_at.result.1.now c.shown_unit-size.result c.shown_unit-size.ensures.value c.if-value-size.false c.split_at.ensures.front c.split_at.ensures.back
      _ _ _ c.from_residual.ensures.0 c.in_err-put_unit.ensures.bytes;
  failed = search rules;
}

pub returns : goal.returns
returns g c = record {
  bytes = joined_went c.args.vr c.args.value.now c.split_at.result.0.now c.split_at.result.1.now c.shown_unit-size.result c.shown_unit-size.ensures.value c.if-value-size.false c.split_at.ensures.front c.split_at.ensures.back
      _ _ _ _ c.in_ok-put_unit.ensures.bytes c.put_others.ensures.bytes;
  failed = search rules;
}
