use Rattle.std.proofs.Common.{◌-◌, arith, fold}
use Rattle.dcm_stream.specs.Tokens.{atoms_of}
use Rattle.dcm_table.specs.Slots.{slots_of}
use Rattle.dcm_table.specs.TableSink.{Slot, slot_step}
use Rattle.dcm_table.proofs.Indexed.{part_changed, none_changed}
use Rattle.dcm_table.proofs.cells.take_in_span.Goals as goal

pub returns-then-span-clause-changed : goal.returns-then-span-clause-changed
returns-then-span-clause-changed c =
    part_changed (λ (s : Slot). fold slot_step s (atoms_of c.args.token)) c.args.span c.args.slots.now c.take_each.new.slots c.min-first.result (c.min-after.result - c.min-first.result)
    (omega (arith, c.from.ensures, c.min-after.ensures, c.from-then-span.ensures, c.min-first.ensures)) (omega (arith, c.from.ensures, c.min-after.ensures)) c.take_each.ensures

pub returns-else-span-clause-changed : goal.returns-else-span-clause-changed
returns-else-span-clause-changed c =
    none_changed (λ (s : Slot). fold slot_step s (atoms_of c.args.token)) c.args.span (slots_of c.args.slots.now) c.if-span.false
