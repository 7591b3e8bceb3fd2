-- Where there is room for a head, no container is full.
use Rattle.std.proofs.Common.{◌≡◌, sym, ap, subst, refl, ℕ, ◌-◌, min, List, [], ◌∷◌, Bool, true, false, cond, Option, Some, None, Ok, arith, inl, inr}
use Rattle.std.proofs.lemmas.Bool.{eqb-true, cases_Bool, ltb-false}
use Rattle.dcm_lemmas.proofs.Options.{known_nothing}
use Rattle.dcm_base.specs.declared.level.Level.{Level}
use Rattle.dcm_base.specs.Reading.Place.{distance, least, room, passes}
use Rattle.dcm_base.specs.Steps.Atoms.{Atom}
use Rattle.dcm_stream.specs.Reading.{closes, ends_at, full_closed, Reading}
use Rattle.dcm_stream.specs.declared.cursor.Cursor.{Cursor}
use Rattle.dcm_stream.specs.Machine.{reading, settles, Comes}

-- the room is no more than that to each end
within : (position end : ℕ) (other : Option ℕ) → passes 8 (least (Some (end - position)) other) ≡ false → end ≡ position → ⊥
within position end None h e = let k = ltb-false (end - position) 8 h in omega arith
within position end (Some x) h e = let k = ltb-false (min (end - position) x) 8 h in omega arith

ends_elsewhere : (position : ℕ) (end other : Option ℕ) → passes 8 (least (distance position end) other) ≡ false → ends_at position end ≡ true → ⊥
ends_elsewhere position None other h e = absurd (cc)
ends_elsewhere position (Some end) other h e = within position end other h (eqb-true end position e)

pub nothing_full : (position : ℕ) (ls : List Level) → passes 8 (room position ls) ≡ false → full_closed position ls ≡ (ls, [])
unfolding room full_closed
nothing_full position [] h = refl
nothing_full position (inner ∷ outer) h = elim (cases_Bool (ends_at position inner.end_offset)) [
  | inl e ↦ absurd (ends_elsewhere position inner.end_offset (room position outer) h e)
  | inr e ↦ ap (λ (x : Bool). cond {A = List Level × List Atom} x ((full_closed position outer).0, closes inner.container ∷ (full_closed position outer).1) (inner ∷ outer, [])) e
]

-- so a place with room stays as it is
pub settles_nowhere : (p : Cursor) → p.head.items ≡ [] → p.left ≡ 0 → passes 8 (room p.position p.levels) ≡ false → settles p ≡ (reading p None, [])
settles_nowhere p head left h =
    let same = nothing_full p.position p.levels h in
    rw (head, left, same, h) refl

module _ {S : Type 0} (step : S → Atom → S) (writes : S → Atom → List ℕ) where
  pub stays_settled : {T : Type 0} (p : Cursor) (s : S) (held : Option (List ℕ)) (x : T) → p.head.items ≡ [] → p.left ≡ 0 → passes 8 (room p.position p.levels) ≡ false → Comes step writes s held s held (reading p) (settles p) (Ok x)
  stays_settled {T} p s held x head left h =
      subst (λ (q : Reading × List Atom). Comes {T = T} step writes s held s held (reading p) q (Ok x)) (sym (settles_nowhere p head left h)) (refl, refl, sym (known_nothing held))
