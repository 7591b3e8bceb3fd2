use Rattle.dcm_table.specs.Cell.{missing}
use Rattle.dcm_table.specs.InForce.{EMPTY}
use Rattle.dcm_table.specs.TableSink.{Slot}
use Rattle.dcm_table.proofs.EachSlot.{SlotsSoFar}
use Rattle.dcm_table.proofs.cells.clear_each.Given as goal

-- the cells so far are changed
abbrev pub invariant-loop-slot : goal.invariant-loop-slot
invariant-loop-slot l = SlotsSoFar (λ (c : Slot). (c.0, missing, EMPTY)) l.slots l.initial.slots l.slot-index
