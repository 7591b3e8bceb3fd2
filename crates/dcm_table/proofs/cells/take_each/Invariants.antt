use Rattle.std.proofs.Common.{fold}
use Rattle.dcm_stream.specs.Tokens.{atoms_of}
use Rattle.dcm_table.specs.TableSink.{Slot, slot_step}
use Rattle.dcm_table.proofs.EachSlot.{SlotsSoFar}
use Rattle.dcm_table.proofs.cells.take_each.Given as goal

-- the cells so far are changed
abbrev pub invariant-loop-slot : goal.invariant-loop-slot
invariant-loop-slot l = SlotsSoFar (λ (c : Slot). fold slot_step c (atoms_of l.token)) l.slots l.initial.slots l.slot-index
