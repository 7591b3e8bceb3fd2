use Rattle.std.proofs.Common.{arith}
use Rattle.dcm_table.specs.TableSink.{Slot, slot_set}
use Rattle.dcm_table.proofs.EachSlot.{slots_none, slots_more, slots_all}
use Rattle.dcm_table.proofs.cells.set_each.Goals as goal

pub loop-slot-init : goal.loop-slot-init
loop-slot-init c = slots_none _ _

pub loop-slot-preserved : goal.loop-slot-preserved
loop-slot-preserved c =
    slots_more (λ (s : Slot). slot_set c.args.sets s) c.loop-slot.slots c.args.slots.now c.loop-slot.slot-index c.slot-item.result c.set.new.self (omega arith) (omega arith) c.set.ensures c.loop-slot.invariant

pub returns : goal.returns
returns c = slots_all (λ (s : Slot). slot_set c.args.sets s) c.loop-slot.slots c.args.slots.now c.loop-slot.slot-index c.loop-slot.invariant (omega arith) (omega arith)
