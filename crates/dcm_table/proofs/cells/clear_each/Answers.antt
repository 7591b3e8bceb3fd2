use Rattle.std.proofs.Common.{arith}
use Rattle.dcm_table.specs.Cell.{missing}
use Rattle.dcm_table.specs.InForce.{EMPTY}
use Rattle.dcm_table.specs.TableSink.{Slot}
use Rattle.dcm_table.proofs.EachSlot.{slots_none, slots_more, slots_all}
use Rattle.dcm_table.proofs.cells.clear_each.Goals as goal

pub loop-slot-init : goal.loop-slot-init
loop-slot-init c = slots_none _ _

pub loop-slot-preserved : goal.loop-slot-preserved
loop-slot-preserved c =
    slots_more (λ (c : Slot). (c.0, missing, EMPTY)) c.loop-slot.slots c.args.slots.now c.loop-slot.slot-index c.slot-item.result c.clear.new.self (omega arith) (omega arith) c.clear.ensures c.loop-slot.invariant

pub returns : goal.returns
returns c = slots_all (λ (c : Slot). (c.0, missing, EMPTY)) c.loop-slot.slots c.args.slots.now c.loop-slot.slot-index c.loop-slot.invariant (omega arith) (omega arith)
