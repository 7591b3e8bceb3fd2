use Rattle.std.proofs.Common.{◌≤◌, ◌∙◌, ap, length, ℕ, Option, arith}
use Rattle.dcm_base.specs.Reading.Place.{depth, least}
use Rattle.dcm_stream.proofs.Containers.Rooms.{depth_few, counts_few, push_summed}
use Rattle.dcm_stream.proofs.levels.OpenLevels.push.Goals as goal

pub overflow_add-depth : goal.overflow_add-depth
overflow_add-depth c =
    let few : depth c.args.self.now ≤ length c.args.self.now = depth_few c.args.self.now in
    let one : c.counts.result ≤ 1 = counts_few _ _ c.counts.ensures in
    omega (arith, few, one, c.requires, c.depth.ensures)

pub invariant_of-self : goal.invariant_of-self
invariant_of-self c =
    push_summed c.self.inside.outermost_first.items c.push.new.self.items _ c.args.self.now c.self.invariant c.self.view_is c.push.ensures.items
    (c.least-nearest.ensures ∙ ap (λ (x : Option ℕ). least c.args.level.end_offset x) c.nearest_end.ensures)
    (omega (arith, c.depth.ensures, c.counts.ensures))
