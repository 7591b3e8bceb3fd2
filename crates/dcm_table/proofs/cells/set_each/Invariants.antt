use Rattle.dcm_table.specs.TableSink.{Slot, slot_set}
use Rattle.dcm_table.proofs.EachSlot.{SlotsSoFar}
use Rattle.dcm_table.proofs.cells.set_each.Given as goal

-- the cells so far are changed
abbrev pub invariant-loop-slot : goal.invariant-loop-slot
invariant-loop-slot l = SlotsSoFar (λ (c : Slot). slot_set l.sets c) l.slots l.initial.slots l.slot-index
