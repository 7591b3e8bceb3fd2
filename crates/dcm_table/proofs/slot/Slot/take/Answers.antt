use Rattle.std.proofs.Common.{◌∙◌, sym, ap, fold}
use Rattle.dcm_stream.specs.Tokens.{atoms_of}
use Rattle.dcm_stream.specs.declared.token.Token.{Token}
use Rattle.dcm_table.specs.Slots.{slot_of}
use Rattle.dcm_table.specs.TableSink.{slot_step}
use Rattle.dcm_table.proofs.EachSlot.{bytes_in_slot}
use Rattle.dcm_table.proofs.slot.Slot.take.Goals as goal

pub returns-in-Bytes : goal.returns-in-Bytes
returns-in-Bytes c =
    let s = slot_of c.args.self.now in
    c.add.ensures ∙ sym (bytes_in_slot s c.in-Bytes.bytes.now) ∙ ap (λ (t : Token). fold slot_step s (atoms_of t)) (sym c.in-Bytes.is)
