use Rattle.std.proofs.Common.{◌∙◌, sym, ap, List, map}
use Rattle.dcm_table.specs.declared.column.Column.{Column}
use Rattle.dcm_table.specs.declared.slot.Slot.{Slot as HeldSlot}
use Rattle.dcm_table.specs.Index.{NONE, has_each, holds_busy}
use Rattle.dcm_table.specs.Slots.{slots_of}
use Rattle.dcm_table.proofs.Indexed.{begun_rest}
use Rattle.dcm_table.proofs.cells.Cells.new.Goals as goal

pub invariant_of-result : goal.invariant_of-result
invariant_of-result c = (
  ap (λ (x : List HeldSlot). has_each c.new-index.result 0 (slots_of x)) (sym c.as_slice-2.ensures.value) ∙ c.new-index.ensures,
  (ap (holds_busy NONE 0) c.in_ok-slots.ensures ∙ begun_rest NONE 0 (map (λ (x : Column). x.tag) c.as_slice.result.now), tt),
)
