-- Cells and rows that go out as parts.
use Rattle.std.proofs.Common.{◌≡◌, ◌∙◌, sym, ap, subst, ℕ, ◌+◌, ◌<◌, ◌≤◌, List, [], ◌++◌, length, drop, get_or, Option, Bool, true, false, Result}
use Rattle.std.proofs.lemmas.List.{drop_more, drop_all}
use Rattle.dcm_base.specs.declared.vr.Vr.{Vr}
use Rattle.dcm_base.specs.Tables.Transfer.{without_pads}
use Rattle.dcm_devices.specs.Device.{Puts}
use Rattle.dcm_text.specs.declared.sets.Sets.{Sets}
use Rattle.dcm_table.specs.declared.quoted.TextForm.{TextForm}
use Rattle.dcm_table.specs.declared.slot.Slot.{Slot as HeldSlot}
use Rattle.dcm_table.specs.Quoted.{quoted}
use Rattle.dcm_table.specs.Row.{shown_text, value_parts, numbers_parts, cells_parts, next_cell_parts}
use Rattle.dcm_table.specs.Slots.{slot_of, slots_of}
use Rattle.dcm_table.proofs.PartsOut.{Out, bytes_out}

pub text_out : {T E : Type 0} (t : Bool) (form : TextForm) (sets : Sets) (vr : Vr) (value put : List ℕ) (old new : Option (List ℕ)) (r : Result T E) → t ≡ true → put ≡ without_pads value → Puts old new (quoted (shown_text form sets vr put)) r → Out old new (value_parts t form sets vr value) r
text_out {T} {E} t form sets vr value put old new r e same h =
    subst (λ (b : Bool). Out {T = T} {E = E} old new (value_parts b form sets vr value) r) (sym e)
    (bytes_out old new (quoted (shown_text form sets vr (without_pads value))) r (subst (λ (x : List ℕ). Puts {T = T} {E = E} old new (quoted (shown_text form sets vr x)) r) same h))

pub numbers_out : {T E : Type 0} (t : Bool) (form : TextForm) (sets : Sets) (vr : Vr) (value : List ℕ) (old new : Option (List ℕ)) (r : Result T E) → t ≡ false → Out old new (numbers_parts vr value) r → Out old new (value_parts t form sets vr value) r
numbers_out {T} {E} t form sets vr value old new r e h = subst (λ (b : Bool). Out {T = T} {E = E} old new (value_parts b form sets vr value) r) (sym e) h

-- the next cell of those that are to come
pub next_cell : (form : TextForm) (slots : List HeldSlot) (i : ℕ) (slot : HeldSlot) → i < length slots → slot ≡ get_or slots i slot
    → cells_parts form (slots_of (drop i slots)) ≡ next_cell_parts form (slot_of slot) ++ cells_parts form (slots_of (drop (i + 1) slots))
next_cell form slots i slot h is =
    ap (λ (x : List HeldSlot). cells_parts form (slots_of x)) (drop_more slots i slot h)
    ∙ ap (λ (x : HeldSlot). next_cell_parts form (slot_of x) ++ cells_parts form (slots_of (drop (i + 1) slots))) (sym is)

pub no_cell : (form : TextForm) (slots : List HeldSlot) (i : ℕ) → length slots ≤ i → cells_parts form (slots_of (drop i slots)) ≡ []
no_cell form slots i h = ap (λ (x : List HeldSlot). cells_parts form (slots_of x)) (drop_all i slots h)
