use Rattle.std.proofs.Common.{rules, ◌∙◌}
use Rattle.dcm_json.proofs.UnitPieces.{before_failed, next_went}
use Rattle.dcm_json.proofs.number_value.put_next.Goals as goal

pub returns-in_err-put_all : goal.returns-in_err-put_all
returns-in_err-put_all g c = record {
  bytes = before_failed _ _ _ c.before-2.result.now _ _ c.from_residual.ensures.0 c.before-2.ensures c.in_err-put_all.ensures.wrote.bytes;
  failed = search rules;
}

pub returns : goal.returns
returns g c = record {
  bytes = next_went _ _ _ _ c.before-2.result.now c.args.vr c.as_slice.result.now _ _ c.before-2.ensures c.in_ok-put_all.ensures.wrote.bytes (c.as_slice.ensures.value ∙ c.ordered.ensures) c.put_unit.ensures.bytes;
  failed = search rules;
}
