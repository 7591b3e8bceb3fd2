-- What items of sequences, and the ends of items and of sequences open and close.
use Rattle.std.proofs.Common.{◌≡◌, ◌∙◌, ap, sym, refl, subst, ℕ, ◌≤◌, List, drop, length, Bool, true, false, cond, Option, Some, None, Ok, inr}
use Rattle.std.specs.Prelude.{◌==◌, ◌&&◌, ◌||◌}
use Rattle.std.proofs.lemmas.Bool.{and_parts, or_left, or_right, eqb-true}
use Rattle.dcm_base.specs.declared.tag.Tag.{Tag}
use Rattle.dcm_base.specs.declared.vr.Vr.TheVariants.{UN}
use Rattle.dcm_base.specs.declared.length.Length.{Length}
use Rattle.dcm_base.specs.declared.length.Length.TheVariants.{Known, Undefined}
use Rattle.dcm_base.specs.declared.level.Container.{Container}
use Rattle.dcm_base.specs.declared.level.Container.TheVariants.{Item as an_item, Sequence as a_sequence}
use Rattle.dcm_base.specs.declared.level.Level.{Level}
use Rattle.dcm_base.specs.declared.fault.Fault.{Fault}
use Rattle.dcm_base.specs.declared.fault.Fault.TheVariants.{PassesEnd}
use Rattle.dcm_base.specs.Tables.Number.{number}
use Rattle.dcm_base.specs.Tables.Tag.{is_item, is_item_end, is_sequence_end}
use Rattle.dcm_base.specs.Bytes.Head.{tag_at, long_length}
use Rattle.dcm_base.specs.Reading.Place.{room, passes, is_data, is_undefined, is_allowed}
use Rattle.dcm_base.specs.Reading.Stop.{HeadBar, with_length}
use Rattle.dcm_head.specs.declared.head.Head.{Head}
use Rattle.dcm_head.specs.declared.head.HeadRead.TheVariants.{Done}
use Rattle.dcm_head.specs.HeadRead.{is_delimiter, tag_read}
use Rattle.dcm_head.proofs.Heads.Reads.{by_tests}
use Rattle.dcm_stream.specs.Places.{innermost}
use Rattle.dcm_stream.specs.declared.judge.Opening.{Opening}
use Rattle.dcm_stream.specs.declared.judge.Opening.TheVariants as opening
use Rattle.dcm_stream.specs.declared.judge.Judged.TheVariants as judged
use Rattle.dcm_stream.specs.Judging.{item_fault, Judges}
use Rattle.dcm_stream.proofs.Heads.Elements.{MayCome, fault_by, with_by, item_opens_as, opens_judged}

-- ---- where they may come

item_allowed : (c : Container) (d : Length) (tag : Tag) → c ≡ a_sequence → is_item tag ≡ true → is_allowed c d tag ≡ true
unfolding is_allowed
item_allowed c d tag e i = ap (λ (x : Container). is_allowed x d tag) e ∙ ap (λ (x : Bool). x || is_undefined d && is_sequence_end tag) i

item_end_allowed : (c : Container) (d : Length) (tag : Tag) → c ≡ an_item → d ≡ Undefined → is_item_end tag ≡ true → is_allowed c d tag ≡ true
unfolding is_allowed
item_end_allowed c d tag e u i =
    ap (λ (x : Container). is_allowed x d tag) e ∙ ap (λ (x : Length). is_data tag || is_undefined x && is_item_end tag) u ∙ or_right (is_data tag) (is_item_end tag) i

sequence_end_allowed : (c : Container) (d : Length) (tag : Tag) → c ≡ a_sequence → d ≡ Undefined → is_sequence_end tag ≡ true → is_allowed c d tag ≡ true
unfolding is_allowed
sequence_end_allowed c d tag e u i =
    ap (λ (x : Container). is_allowed x d tag) e ∙ ap (λ (x : Length). is_item tag || is_undefined x && is_sequence_end tag) u ∙ or_right (is_item tag) (is_sequence_end tag) i

-- ---- their tags

-- an element of the group of items
of_items : (tag : Tag) (element : ℕ) → ((tag.group == 0xFFFE) && (tag.element == element)) ≡ true → (tag.group == 0xFFFE) ≡ true
of_items tag element e = (and_parts (tag.group == 0xFFFE) (tag.element == element) e).0

-- another element than that of items
no_item : (tag : Tag) (element : ℕ) → (element == 0xE000) ≡ false → ((tag.group == 0xFFFE) && (tag.element == element)) ≡ true → is_item tag ≡ false
no_item tag element other e =
    let parts = and_parts (tag.group == 0xFFFE) (tag.element == element) e in
    ap (λ (x : Bool). x && (tag.element == 0xE000)) parts.0 ∙ ap (λ (n : ℕ). n == 0xE000) (eqb-true tag.element element parts.1) ∙ other

-- ---- what they open and close

module _ (bar : HeadBar) (inner : Level) (around : List Level) (position : ℕ) (bytes : List ℕ)
    (free : passes 8 (room position around) ≡ false) (eight : 8 ≤ length bytes) (is : innermost around ≡ Some inner) where
  abbrev tag : Tag
  tag = tag_at inner.syntax bytes

  comes : is_allowed inner.container inner.declared tag ≡ true → MayCome inner around position bytes
  comes h = record { room_for = free; eight = eight; allowed = h }

  abbrev item_head : Head
  item_head = record { tag = tag; vr = UN; length = long_length (number inner.syntax 4 (drop 4 bytes)) }

  abbrev end_head : Head
  end_head = record { tag = tag; vr = UN; length = Known 0 }

  -- the end of this container
  ends : (o : Opening) → o ≡ opening.End inner.container → MayCome inner around position bytes → (tag.group == 0xFFFE) ≡ true → is_item tag ≡ false → is_delimiter tag ≡ true
      → Judges bar inner around position bytes (judged.Opens o 8)
  ends o e m g i d =
      subst (λ (x : Opening). Judges bar inner around position bytes (judged.Opens x 8)) (sym e)
      (opens_judged bar inner around position bytes m end_head 8 (Ok (opening.End inner.container)) (opening.End inner.container) is
      (sym (by_tests inner.syntax bytes tag false true i d))
      (fault_by bar inner around position bytes m true false end_head 8 g i, λ begin levels. with_by bar inner around position bytes m true false end_head begin levels g i)
      refl)

  pub item_end_judged : inner.container ≡ an_item → inner.declared ≡ Undefined → is_item_end tag ≡ true → Judges bar inner around position bytes (judged.Opens (opening.End an_item) 8)
  item_end_judged c u t =
      ends (opening.End an_item) (ap opening.End (sym c)) (comes (item_end_allowed inner.container inner.declared tag c u t))
      (of_items tag 0xE00D t) (no_item tag 0xE00D refl t) (or_left (is_item_end tag) (is_sequence_end tag) t)

  pub sequence_end_judged : inner.container ≡ a_sequence → inner.declared ≡ Undefined → is_sequence_end tag ≡ true → Judges bar inner around position bytes (judged.Opens (opening.End a_sequence) 8)
  sequence_end_judged c u t =
      ends (opening.End a_sequence) (ap opening.End (sym c)) (comes (sequence_end_allowed inner.container inner.declared tag c u t))
      (of_items tag 0xE0DD t) (no_item tag 0xE0DD refl t) (or_right (is_item_end tag) (is_sequence_end tag) t)

  item_fits : (c : Container) (l : Length) → c ≡ a_sequence → passes (with_length 8 l) (room position around) ≡ false → item_fault c l (room position around) ≡ None
  item_fits c l e p = ap (λ (x : Container). item_fault x l (room position around)) e ∙ ap (λ (x : Bool). cond {A = Option Fault} x (Some PassesEnd) None) p

  pub item_judged : (head : Head) (size : ℕ) → inner.container ≡ a_sequence → is_item tag ≡ true → Done head size ≡ tag_read inner.syntax bytes tag → passes (with_length 8 head.length) (room position around) ≡ false
      → Judges bar inner around position bytes (judged.Opens (opening.Item inner.syntax head.length) 8)
  item_judged head size c t read p =
      let e : Done head size ≡ Done item_head 8 = read ∙ by_tests inner.syntax bytes tag true (is_delimiter tag) t refl in
      let same : item_head ≡ head = cc in
      let g = of_items tag 0xE000 t in
      let m = comes (item_allowed inner.container inner.declared tag c t) in
      subst (λ (h : Head). passes (with_length 8 h.length) (room position around) ≡ false → Judges bar inner around position bytes (judged.Opens (opening.Item inner.syntax h.length) 8)) same
      (λ fits. opens_judged bar inner around position bytes m item_head 8 (Ok (opening.Item inner.syntax item_head.length)) (opening.Item inner.syntax item_head.length) is
      (sym (by_tests inner.syntax bytes tag true (is_delimiter tag) t refl)) (
        fault_by bar inner around position bytes m true true item_head 8 g t ∙ item_fits inner.container item_head.length c fits,
        λ begin levels. with_by bar inner around position bytes m true true item_head begin levels g t ∙ item_opens_as inner.container inner.syntax item_head.length (inr (inr c)) begin levels,
      )
      refl) p
