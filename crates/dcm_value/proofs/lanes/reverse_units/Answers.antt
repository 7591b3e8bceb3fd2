use Rattle.std.proofs.Common.{arith, ◌∙◌, ap, length, ◌≡◌, ◌/◌}
use Rattle.dcm_value.proofs.UnitOrder.Reversals.{units_reversed, units_reversed-next, unit_room, swapped_turned}
use Rattle.dcm_value.proofs.lanes.reverse_units.Goals as goal

pub loop-unit-preserved : goal.loop-unit-preserved
loop-unit-preserved g c =
    let room = unit_room g.row.N c.loop-unit.unit _ c.loop-unit-test.true in
    units_reversed-next g.row.N c.loop-unit.unit _ _ c.loop-unit.bytes _ c.loop-unit.invariant room (omega arith) c.reverse.ensures.after

pub returns : goal.returns
returns g c =
    let all : c.loop-unit.unit ≡ length c.args.bytes.now / g.row.N = omega arith in
    c.loop-unit.invariant ∙ ap (λ k. units_reversed g.row.N k c.args.bytes.now) all ∙ swapped_turned g.row.N c.args.bytes.now
