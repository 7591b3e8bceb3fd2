use Rattle.std.proofs.Common.{rules, refl, arith, ◌∙◌}
use Rattle.dcm_table.proofs.NumberParts.{next_unit, no_next_unit}
use Rattle.dcm_table.proofs.PartsOut.{so_far_none, so_far_more, so_far_failed, so_far_done}
use Rattle.dcm_table.proofs.numbers.put_others.Goals as goal

pub loop-rest-init : goal.loop-rest-init
loop-rest-init g c = record { out = so_far_none _ _; failed = refl }

pub loop-rest-preserved : goal.loop-rest-preserved
loop-rest-preserved g c =
    let e = c.shown_unit-size.ensures.value in
    record {
      out = so_far_more _ _ _ c.loop-rest.invariant.out
          (next_unit c.args.vr c.loop-rest.rest.now c.split_at.result.0.now c.split_at.result.1.now c.shown_unit-size.result e c.loop-rest-test.true c.split_at.ensures.front c.split_at.ensures.back)
          c.in_ok-put_next_unit.ensures.bytes;
      failed = c.in_ok-put_next_unit.ensures.failed ∙ c.loop-rest.invariant.failed;
    }

pub returns-in_err-put_next_unit : goal.returns-in_err-put_next_unit
returns-in_err-put_next_unit g c =
    let e = c.shown_unit-size.ensures.value in
    record {
      bytes = so_far_failed _ _ _ _ c.loop-rest.invariant.out
          (next_unit c.args.vr c.loop-rest.rest.now c.split_at.result.0.now c.split_at.result.1.now c.shown_unit-size.result e c.loop-rest-test.true c.split_at.ensures.front c.split_at.ensures.back)
          c.from_residual.ensures.0 c.in_err-put_next_unit.ensures.bytes;
      failed = search rules;
    }

pub returns : goal.returns
returns g c =
    let e = c.shown_unit-size.ensures.value in
    record {
      bytes = so_far_done c.loop-rest.invariant.out (no_next_unit c.args.vr c.loop-rest.rest.now (omega (arith, e)));
      failed = c.loop-rest.invariant.failed;
    }
