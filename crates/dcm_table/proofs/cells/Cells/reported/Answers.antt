use Rattle.std.proofs.Common.{◌∙◌}
use Rattle.dcm_table.proofs.EachSlot.{reported_at}
use Rattle.dcm_table.proofs.cells.Cells.reported.Goals as goal

pub returns : goal.returns
returns c =
    let within = rw (← c.self.view_is) at c.requires in
    rw (← c.self.view_is)
    (c.reported_after.ensures
    ∙ reported_at c.self.inside.slots.items c.as_slice-slots.result.now c.split_at.result.0.now c.args.column c.index-slots-column.result
    c.as_slice-slots.ensures.value within c.index-slots-column.is c.split_at.ensures.front)
