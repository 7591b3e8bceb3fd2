use Rattle.std.proofs.Common.{arith, fold}
use Rattle.dcm_stream.specs.Tokens.{atoms_of}
use Rattle.dcm_table.specs.TableSink.{Slot, slot_step}
use Rattle.dcm_table.proofs.EachSlot.{slots_none, slots_more, slots_all}
use Rattle.dcm_table.proofs.cells.take_each.Goals as goal

pub loop-slot-init : goal.loop-slot-init
loop-slot-init c = slots_none _ _

pub loop-slot-preserved : goal.loop-slot-preserved
loop-slot-preserved c =
    slots_more (λ (s : Slot). fold slot_step s (atoms_of c.args.token)) c.loop-slot.slots c.args.slots.now c.loop-slot.slot-index c.slot-item.result c.take.new.self (omega arith) (omega arith) c.take.ensures c.loop-slot.invariant

pub returns : goal.returns
returns c = slots_all (λ (s : Slot). fold slot_step s (atoms_of c.args.token)) c.loop-slot.slots c.args.slots.now c.loop-slot.slot-index c.loop-slot.invariant (omega arith) (omega arith)
