use Rattle.std.proofs.Common.{rules, refl, arith, ap, sym, ◌∙◌}
use Rattle.dcm_table.proofs.PartsOut.{so_far_none, so_far_more, so_far_failed, so_far_done}
use Rattle.dcm_json.specs.NumberState as spec
use Rattle.dcm_json.proofs.UnitPieces.{next_stands, next_unit, no_unit}
use Rattle.dcm_json.proofs.number_value.put_units.Goals as goal

pub loop-rest-init : goal.loop-rest-init
loop-rest-init g c = record { out = so_far_none _ _; stands = refl; failed = refl }

pub loop-rest-preserved : goal.loop-rest-preserved
loop-rest-preserved g c =
    let e = c.shown_unit-size.ensures.value in
    record {
      out = so_far_more _ _ _ c.loop-rest.invariant.out
          (next_unit c.args.vr c.args.syntax c.loop-rest.stands c.loop-rest.rest.now c.split_at.result.0.now c.split_at.result.1.now c.shown_unit-size.result e c.loop-rest-test.true c.split_at.ensures.front c.split_at.ensures.back)
          c.in_ok-put_next.ensures.bytes;
      stands = next_stands c.args.vr c.loop-rest.stands c.loop-rest.rest.now c.split_at.result.0.now c.split_at.result.1.now c.shown_unit-size.result e c.loop-rest-test.true c.split_at.ensures.front c.split_at.ensures.back
          ∙ c.loop-rest.invariant.stands;
      failed = c.in_ok-put_next.ensures.failed ∙ c.loop-rest.invariant.failed;
    }

pub returns-in_err-put_next-clause-wrote : goal.returns-in_err-put_next-clause-wrote
returns-in_err-put_next-clause-wrote g c =
    let e = c.shown_unit-size.ensures.value in
    record {
      bytes = so_far_failed _ _ _ _ c.loop-rest.invariant.out
          (next_unit c.args.vr c.args.syntax c.loop-rest.stands c.loop-rest.rest.now c.split_at.result.0.now c.split_at.result.1.now c.shown_unit-size.result e c.loop-rest-test.true c.split_at.ensures.front c.split_at.ensures.back)
          c.from_residual.ensures.0 c.in_err-put_next.ensures.bytes;
      failed = search rules;
    }

pub returns-clause-stands : goal.returns-clause-stands
returns-clause-stands g c =
    sym (ap (spec.stands c.loop-rest.stands) (no_unit c.args.vr c.loop-rest.rest.now (omega (arith, c.shown_unit-size.ensures.value, c.loop-rest-test.false)))) ∙ c.loop-rest.invariant.stands

pub returns-clause-wrote : goal.returns-clause-wrote
returns-clause-wrote g c =
    let e = c.shown_unit-size.ensures.value in
    record {
      bytes = so_far_done c.loop-rest.invariant.out (ap (spec.units_parts c.args.vr c.args.syntax c.loop-rest.stands) (no_unit c.args.vr c.loop-rest.rest.now (omega (arith, e, c.loop-rest-test.false))));
      failed = c.loop-rest.invariant.failed;
    }
