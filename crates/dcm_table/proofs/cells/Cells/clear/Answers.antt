use Rattle.std.proofs.Common.{◌∙◌, ap, map, List, ◌≡◌, refl, length, vec_len}
use Rattle.std.proofs.lemmas.List.{with_items_is}
use Rattle.std.specs.Vec.{with_items}
use Rattle.dcm_table.specs.declared.slot.Slot.{Slot as HeldSlot}
use Rattle.dcm_table.specs.Index.{holds_busy, has_each}
use Rattle.dcm_table.specs.Slots.{slots_of}
use Rattle.dcm_table.specs.Cell.{missing}
use Rattle.dcm_table.specs.InForce.{EMPTY}
use Rattle.dcm_table.specs.TableSink.{Slot}
use Rattle.dcm_table.proofs.Indexed as indexed
use Rattle.dcm_table.proofs.cells.Cells.clear.Goals as goal

pub invariant_of-self-inside : goal.invariant_of-self-inside
invariant_of-self-inside c =
    let f : Slot → Slot = λ (s : Slot). (s.0, missing, EMPTY) in
    let items = c.self.inside.slots.items in
    let size : length c.clear_each.new.slots ≡ vec_len c.self.inside.slots =
    indexed.mapped_size f c.clear_each.new.slots c.as_mut_slice.result.now c.clear_each.ensures ∙ c.as_mut_slice.ensures.len in
    let all : slots_of (with_items c.self.inside.slots c.clear_each.new.slots).items ≡ map f (slots_of items) =
    ap slots_of (with_items_is c.self.inside.slots c.clear_each.new.slots size) ∙ c.clear_each.ensures ∙ ap (λ (x : List HeldSlot). map f (slots_of x)) c.as_mut_slice.ensures.value in (
      ap (has_each c.self.inside.index 0) all ∙ indexed.each_mapped c.self.inside.index f (λ s. refl) 0 (slots_of items) c.self.inside.indexed,
      (ap (holds_busy (record { first = 255; after = 0 }) 0) all ∙ indexed.none_busy f (λ s. refl) (record { first = 255; after = 0 }) 0 (slots_of items), tt),
    )
