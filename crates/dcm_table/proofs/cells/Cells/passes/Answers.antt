use Rattle.std.proofs.Common.{◌∙◌, sym}
use Rattle.dcm_stream.specs.Skip.{depth}
use Rattle.dcm_table.specs.Slots.{slots_of}
use Rattle.dcm_table.proofs.PassedBy.{whole_passed}
use Rattle.dcm_table.proofs.cells.Cells.passes.Goals as goal

pub returns : goal.returns
returns c = λ is syntax value.
    let cells = c.self.inside in
    rw (← c.self.view_is)
    (whole_passed (depth cells.depth) (record { greatest = cells.greatest; unknown = cells.unknown }) (slots_of cells.slots.items) cells.setting.is_open cells.setting.value.items cells.busy cells.index c.args.head.now syntax value
    cells.indexed cells.idle (sym c.passes_by.ensures ∙ is))
