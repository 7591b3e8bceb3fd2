use Rattle.std.proofs.Common.{true, ◌∙◌, ap, fold, List, ℕ, ◌≡◌, refl, length, vec_len}
use Rattle.std.proofs.lemmas.List.{with_items_is}
use Rattle.std.specs.Vec.{with_items}
use Rattle.dcm_stream.specs.Skip.{depth}
use Rattle.dcm_stream.specs.Tokens.{atoms_of}
use Rattle.dcm_stream.specs.declared.token.Token.TheVariants.{Open}
use Rattle.dcm_table.specs.declared.slot.Slot.{Slot as HeldSlot}
use Rattle.dcm_table.specs.declared.index.Span.{Span}
use Rattle.dcm_table.specs.Index.{is_in, span_of, holds_busy, has_each, changed_in}
use Rattle.dcm_table.specs.Slots.{setting_of, slots_of}
use Rattle.dcm_table.specs.TableSink.{Slot, State, slot_step}
use Rattle.dcm_table.proofs.Indexed as indexed
use Rattle.dcm_table.proofs.cells.Cells.offer.Goals as goal

pub invariant_of-self-inside : goal.invariant_of-self-inside
invariant_of-self-inside c =
    let f : Slot → Slot = λ (s : Slot). fold slot_step s (atoms_of (Open c.args.head c.args.syntax)) in
    let items = c.self.inside.slots.items in
    let size : length c.take_in_span.new.slots ≡ vec_len c.self.inside.slots = c.take_in_span.ensures.size ∙ c.as_mut_slice.ensures.len in
    let held : slots_of (with_items c.self.inside.slots c.take_in_span.new.slots).items ≡ changed_in f c.with-self-inside.result 0 (slots_of items) =
    ap slots_of (with_items_is c.self.inside.slots c.take_in_span.new.slots size) ∙ c.take_in_span.ensures.changed
    ∙ ap (λ (x : List HeldSlot). changed_in f c.with-self-inside.result 0 (slots_of x)) c.as_mut_slice.ensures.value in
    let more : (j : ℕ) → is_in c.self.inside.busy j ≡ true → is_in c.with-self-inside.result j ≡ true =
    λ j h. ap (λ (x : Span). is_in x j) c.with-self-inside.ensures ∙ indexed.in_first c.self.inside.busy c.span_of.result j h in
    let wide : holds_busy c.with-self-inside.result 0 (slots_of items) ≡ true = indexed.busy_wider c.self.inside.busy c.with-self-inside.result more 0 (slots_of items) c.self.inside.idle in (
      ap (has_each c.self.inside.index 0) held ∙ indexed.each_kept c.self.inside.index f (λ s. refl) c.with-self-inside.result 0 (slots_of items) c.self.inside.indexed,
      (ap (holds_busy c.with-self-inside.result 0) held ∙ indexed.busy_kept f c.with-self-inside.result 0 (slots_of items) wide, tt),
    )

pub returns : goal.returns
returns c =
    let f : Slot → Slot = λ (s : Slot). fold slot_step s (atoms_of (Open c.args.head c.args.syntax)) in
    let items = c.self.inside.slots.items in
    let size : length c.take_in_span.new.slots ≡ vec_len c.self.inside.slots = c.take_in_span.ensures.size ∙ c.as_mut_slice.ensures.len in
    let held : slots_of (with_items c.self.inside.slots c.take_in_span.new.slots).items ≡ changed_in f c.with-self-inside.result 0 (slots_of items) =
    ap slots_of (with_items_is c.self.inside.slots c.take_in_span.new.slots size) ∙ c.take_in_span.ensures.changed
    ∙ ap (λ (x : List HeldSlot). changed_in f c.with-self-inside.result 0 (slots_of x)) c.as_mut_slice.ensures.value in
    let more : (j : ℕ) → is_in (span_of c.self.inside.index c.args.head.tag) j ≡ true → is_in c.with-self-inside.result j ≡ true =
    λ j h. ap (λ (x : Span). is_in x j) c.with-self-inside.ensures ∙ indexed.in_second c.self.inside.busy c.span_of.result j (ap (λ (x : Span). is_in x j) c.span_of.ensures ∙ h) in
    rw (← c.self.view_is)
    (ap (λ (x : List Slot). let s : State = record { depth = depth c.self.inside.depth; greatest = c.self.inside.greatest; slots = x; setting = setting_of c.self.inside.setting; unknown = c.self.inside.unknown } in s)
    (held
    ∙ indexed.tag_alone c.self.inside.index c.args.head.tag f (λ s. indexed.head_stays s c.args.head.tag c.args.head.vr c.args.head.length c.args.syntax) c.with-self-inside.result more 0 (slots_of items) c.self.inside.indexed))
