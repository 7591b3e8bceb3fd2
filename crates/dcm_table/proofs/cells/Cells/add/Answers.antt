use Rattle.std.proofs.Common.{◌∙◌, ap, fold, map, List, ◌≡◌, length, vec_len, Option, ℕ}
use Rattle.std.proofs.lemmas.List.{with_items_is}
use Rattle.std.specs.Vec.{with_items}
use Rattle.dcm_base.specs.Steps.Atoms.{value_byte}
use Rattle.dcm_stream.specs.Skip.{depth}
use Rattle.dcm_table.specs.declared.slot.Slot.{Slot as HeldSlot}
use Rattle.dcm_table.specs.Index.{holds_busy, has_each, changed_in}
use Rattle.dcm_table.specs.Slots.{setting_of, slots_of}
use Rattle.dcm_table.specs.TableSink.{Slot, State, slot_step}
use Rattle.dcm_table.proofs.Indexed as indexed
use Rattle.dcm_table.proofs.cells.Cells.add.Goals as goal

pub invariant_of-self-inside : goal.invariant_of-self-inside
invariant_of-self-inside c =
    let f : Slot → Slot = λ (s : Slot). fold slot_step s (map value_byte c.args.bytes.now) in
    let items = c.self.inside.slots.items in
    let size : length c.take_in_span.new.slots ≡ vec_len c.self.inside.slots = c.take_in_span.ensures.size ∙ c.as_mut_slice.ensures.len in
    let held : slots_of (with_items c.self.inside.slots c.take_in_span.new.slots).items ≡ changed_in f c.self.inside.busy 0 (slots_of items) =
    ap slots_of (with_items_is c.self.inside.slots c.take_in_span.new.slots size) ∙ c.take_in_span.ensures.changed
    ∙ ap (λ (x : List HeldSlot). changed_in f c.self.inside.busy 0 (slots_of x)) c.as_mut_slice.ensures.value in (
      ap (has_each c.self.inside.index 0) held ∙ indexed.each_kept c.self.inside.index f (indexed.bytes_tag c.args.bytes.now) c.self.inside.busy 0 (slots_of items) c.self.inside.indexed,
      (ap (holds_busy c.self.inside.busy 0) held ∙ indexed.busy_kept f c.self.inside.busy 0 (slots_of items) c.self.inside.idle, tt),
    )

pub returns : goal.returns
returns c =
    let f : Slot → Slot = λ (s : Slot). fold slot_step s (map value_byte c.args.bytes.now) in
    let items = c.self.inside.slots.items in
    let size : length c.take_in_span.new.slots ≡ vec_len c.self.inside.slots = c.take_in_span.ensures.size ∙ c.as_mut_slice.ensures.len in
    let held : slots_of (with_items c.self.inside.slots c.take_in_span.new.slots).items ≡ changed_in f c.self.inside.busy 0 (slots_of items) =
    ap slots_of (with_items_is c.self.inside.slots c.take_in_span.new.slots size) ∙ c.take_in_span.ensures.changed
    ∙ ap (λ (x : List HeldSlot). changed_in f c.self.inside.busy 0 (slots_of x)) c.as_mut_slice.ensures.value in
    rw (← c.self.view_is)
    (ap (λ (x : List Slot). let s : State = record { depth = depth c.self.inside.depth; greatest = c.self.inside.greatest; slots = x; setting = setting_of c.add.new.self; unknown = c.self.inside.unknown } in s)
    (held ∙ indexed.busy_alone f (indexed.bytes_stay c.args.bytes.now) c.self.inside.busy 0 (slots_of items) c.self.inside.idle)
    ∙ ap (λ (x : Option (List ℕ)). let s : State = record { depth = depth c.self.inside.depth; greatest = c.self.inside.greatest; slots = map f (slots_of items); setting = x; unknown = c.self.inside.unknown } in s) c.add.ensures)
