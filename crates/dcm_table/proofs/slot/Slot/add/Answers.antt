use Rattle.std.proofs.Common.{◌≡◌, ◌∙◌, sym, ap, arith, length, take, ◌++◌, ◌≤◌, ◌<◌, ◌+◌, List, ℕ, vec_len}
use Rattle.std.proofs.lemmas.List.{length-take-le, with_items_is}
use Rattle.std.specs.Vec.{with_items}
use Rattle.dcm_base.specs.declared.tag.Tag.{Tag}
use Rattle.dcm_text.specs.declared.sets.Sets.{Sets}
use Rattle.dcm_table.specs.Cell.{Cell}
use Rattle.dcm_table.specs.TableSink.{Slot}
use Rattle.dcm_table.specs.Slots.{value_of, cell_of}
use Rattle.dcm_table.proofs.CellSteps.{closed_stays, open_takes, open_passes}
use Rattle.dcm_table.proofs.slot.Slot.add.Goals as goal

abbrev tagged : Tag → Sets → Cell → Slot
tagged tag sets cell = (tag, cell, sets)

pub returns-then-not-is_open : goal.returns-then-not-is_open
returns-then-not-is_open c =
    let self = c.args.self.now in
    ap (tagged self.tag self.sets) (sym (closed_stays self.progress (value_of self) c.args.bytes.now (sym c.if-not-is_open.ensures)))

pub returns-then-bytes-self : goal.returns-then-bytes-self
returns-then-bytes-self c =
    let self = c.args.self.now in
    let room : self.size ≤ length self.room.items = omega (arith, self.full, self.within) in
    let held : length (value_of self) ≡ self.size = length-take-le self.size self.room.items room in
    let within : length (value_of self) ≤ 16384 = omega (arith, held, self.within) in
    let more : 16384 < length (value_of self) + length c.args.bytes.now = omega (arith, held, c.if-bytes-self.true) in
    ap (tagged self.tag self.sets) (open_passes self.progress (value_of self) c.args.bytes.now (sym c.if-not-is_open.ensures) within more)

pub returns : goal.returns
returns c =
    let self = c.args.self.now in
    let room : self.size ≤ length self.room.items = omega (arith, self.full, self.within) in
    let held : length (value_of self) ≡ self.size = length-take-le self.size self.room.items room in
    let fits : length (value_of self) + length c.args.bytes.now ≤ 16384 = omega (arith, held, c.if-bytes-self.false) in
    let same : length c.fill.new.room ≡ vec_len self.room = c.fill.ensures.size ∙ c.as_mut_slice.ensures.len in
    let written : (with_items self.room c.fill.new.room).items ≡ c.fill.new.room = with_items_is self.room c.fill.new.room same in
    ap (tagged self.tag self.sets)
    (ap (λ (x : List ℕ). cell_of self.progress (take (self.size + length c.args.bytes.now) x)) written
    ∙ ap (cell_of self.progress) (c.fill.ensures.front ∙ ap (λ (x : List ℕ). take self.size x ++ c.args.bytes.now) c.as_mut_slice.ensures.value)
    ∙ open_takes self.progress (value_of self) c.args.bytes.now (sym c.if-not-is_open.ensures) fits)
