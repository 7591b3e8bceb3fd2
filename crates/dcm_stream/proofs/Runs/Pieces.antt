-- A machine goes over the beginning of a piece.
use Rattle.std.proofs.Common.{◌≡◌, ◌∙◌, sym, ap, subst, refl, ℕ, ◌+◌, ◌-◌, ◌<◌, ◌≤◌, List, [], ◌∷◌, ◌++◌, length, take, drop, get_or, Option, Some, None, Result, Ok, Err, true, false, arith, take-append-drop}
use Rattle.std.specs.Prelude.{IsErrAnd, IfOk}
use Rattle.std.proofs.lemmas.List.{take-append-le}
use Rattle.dcm_base.specs.declared.level.Level.{Level}
use Rattle.dcm_base.specs.declared.fault.Fault.TheVariants.{TooLong}
use Rattle.dcm_base.specs.Steps.Atoms.{Atom}
use Rattle.dcm_base.specs.Reading.Place.{room, passes}
use Rattle.dcm_base.specs.Reading.Stop.{refused}
use Rattle.dcm_base.specs.Reading.Reads.{INPUT_LIMIT}
use Rattle.dcm_head.specs.declared.head.Head.{Head}
use Rattle.dcm_stream.specs.declared.token.Bar.{Bar}
use Rattle.dcm_stream.specs.declared.cursor.Cursor.{Cursor}
use Rattle.dcm_stream.specs.Halts.{Halt}
use Rattle.dcm_base.specs.declared.stopped.Stopped.TheVariants.{Refused}
use Rattle.dcm_stream.specs.Bounds.{are_nested}
use Rattle.dcm_stream.specs.Reading.{Reading, halted, Sign}
use Rattle.dcm_stream.specs.Machine.{reading, Stands, Comes, value_read, Feeds, bytes_read, held_sign}
use Rattle.dcm_stream.proofs.Runs.Parts.{in_value, in_head, feeds_value, feeds_head}
use Rattle.dcm_stream.proofs.Runs.StaysSmall.{feeds_first, feeds_limit}

pub first_byte : (piece : List ℕ) → 0 < length piece → get_or piece 0 0 ∷ [] ≡ take 1 piece
first_byte [] lt = absurd (omega arith)
first_byte (b ∷ piece) lt = refl

module _ {S : Type 0} (bars : S → Head → Option Bar) (step : S → Atom → S) (writes : S → Atom → List ℕ) where
  -- past the limit
  pub limit_at : (T : Type 0) (p new : Cursor) (s : S) (held : Option (List ℕ)) (bs : List ℕ) (halt : Halt) → halt ≡ Refused (record { fault = TooLong; at = INPUT_LIMIT }) → INPUT_LIMIT ≤ p.position + length p.head.items → 0 < length bs
      → new.position ≡ p.position → new.head.items ≡ [] → new.left ≡ p.left → new.levels ≡ p.levels → held_sign new ≡ held_sign p → Feeds {T = T} bars step writes (reading p None) s held (reading new) s held bs (Err halt)
  limit_at T p new s held bs halt is le some at1 at2 at3 at4 at5 =
      let same : reading new (Some (refused TooLong INPUT_LIMIT)) ≡ halted (reading p None) (refused TooLong INPUT_LIMIT) =
      ap (λ (n : ℕ). record { position = n; head = new.head.items; left = new.left; sign = held_sign new; levels = new.levels; halt = Some (refused TooLong INPUT_LIMIT) }) at1
      ∙ ap (λ (z : List ℕ). record { position = p.position; head = z; left = new.left; sign = held_sign new; levels = new.levels; halt = Some (refused TooLong INPUT_LIMIT) }) at2
      ∙ ap (λ (n : ℕ). record { position = p.position; head = []; left = n; sign = held_sign new; levels = new.levels; halt = Some (refused TooLong INPUT_LIMIT) }) at3
      ∙ ap (λ (ls : List Level). record { position = p.position; head = []; left = p.left; sign = held_sign new; levels = ls; halt = Some (refused TooLong INPUT_LIMIT) }) at4
      ∙ ap (λ (sign : Option Sign). record { position = p.position; head = []; left = p.left; sign = sign; levels = p.levels; halt = Some (refused TooLong INPUT_LIMIT) }) at5 in
      subst (λ (x : Halt). Feeds {T = T} bars step writes (reading p None) s held (reading new) s held bs (Err x)) (sym is)
      (feeds_limit bars step writes T (reading p None) s held (reading new) bs (record { fault = TooLong; at = INPUT_LIMIT }) refl le some refl refl same)

  in_value_at : (p : Cursor) → p.head.items ≡ [] → reading p None ≡ in_value bars step writes p.position p.left (held_sign p) p.levels
  in_value_at p e = ap (λ (z : List ℕ). record { position = p.position; head = z; left = p.left; sign = held_sign p; levels = p.levels; halt = None }) e

  -- bytes of a value
  pub value_goes : {T : Type 0} (p : Cursor) (s : S) (held : Option (List ℕ)) (t : S) (holds : Option (List ℕ)) (new : Cursor) (value : List ℕ) (r : Result T Halt)
      → p.head.items ≡ [] → 0 < length value → length value ≤ p.left → p.position + length value ≤ INPUT_LIMIT
      → Comes step writes s held t holds (reading new) (value_read (reading p None) (p.left - length value) value) r → Feeds bars step writes (reading p None) s held (reading new) t holds value r
  value_goes p s held t holds new value r head some fits within h =
      subst (λ (x : Reading). Feeds bars step writes x s held (reading new) t holds value r) (sym (in_value_at p head))
      (feeds_value bars step writes p.position p.left (held_sign p) p.levels s held t holds (reading new) value r some fits within h)

  -- a call that failed at a beginning of a piece
  pub fails_first : (T : Type 0) (p : Cursor) (s : S) (held : Option (List ℕ)) (t : S) (holds : Option (List ℕ)) (new : Cursor) (front piece : List ℕ) (n : ℕ) (halt : Halt) (r : Result ℕ Halt) → front ≡ take n piece → IsErrAnd r (λ x. x ≡ halt)
      → Feeds {T = T} bars step writes (reading p None) s held (reading new) t holds front (Err halt) → Feeds bars step writes (reading p None) s held (reading new) t holds (bytes_read r piece) r
  fails_first T p s held t holds new front piece n halt (Ok k) e f h = absurd f
  fails_first T p s held t holds new front piece n halt (Err x) e f h =
      subst (λ (y : Halt). Feeds {T = ℕ} bars step writes (reading p None) s held (reading new) t holds piece (Err y)) (sym f)
      (feeds_first bars step writes ℕ (reading p None) s held new t holds n piece halt (subst (λ (xs : List ℕ). Feeds {T = T} bars step writes (reading p None) s held (reading new) t holds xs (Err halt)) e h))

  -- a call that went over a beginning of the first bytes
  pub within_piece : (p : Cursor) (s : S) (held : Option (List ℕ)) (t : S) (holds : Option (List ℕ)) (new : Cursor) (front piece : List ℕ) (n : ℕ) (r : Result ℕ Halt) → front ≡ take n piece → IfOk r (λ k. (0 < k) × (k ≤ length front))
      → Feeds bars step writes (reading p None) s held (reading new) t holds (bytes_read r front) r → Feeds bars step writes (reading p None) s held (reading new) t holds (bytes_read r piece) r
  within_piece p s held t holds new front piece n (Ok k) e le h =
      let whole : front ++ drop n piece ≡ piece = ap (λ (xs : List ℕ). xs ++ drop n piece) e ∙ take-append-drop n piece in
      let same : take k front ≡ take k piece = sym (take-append-le k front (drop n piece) le.1) ∙ ap (take k) whole in
      subst (λ (xs : List ℕ). Feeds bars step writes (reading p None) s held (reading new) t holds xs (Ok k)) same h
  within_piece p s held t holds new front piece n (Err halt) e le h =
      feeds_first bars step writes ℕ (reading p None) s held new t holds n piece halt (subst (λ (xs : List ℕ). Feeds {T = ℕ} bars step writes (reading p None) s held (reading new) t holds xs (Err halt)) e h)

  -- the bytes of a head, wherever they end
  pub head_in : (p : Cursor) → p.head.items ≡ [] → p.left ≡ 0 → reading p None ≡ in_head bars step writes p.position [] (held_sign p) p.levels
  head_in p e f =
      ap (λ (z : List ℕ). record { position = p.position; head = z; left = p.left; sign = held_sign p; levels = p.levels; halt = None }) e
      ∙ ap (λ (n : ℕ). record { position = p.position; head = []; left = n; sign = held_sign p; levels = p.levels; halt = None }) f

  -- bytes that end no head
  heads_in : {T : Type 0} (p : Cursor) (ls : List Level) (s : S) (held : Option (List ℕ)) (new : Cursor) (bs : List ℕ) (x : T) → p.levels ≡ ls → are_nested ls ≡ true → p.left ≡ 0 → passes 8 (room p.position ls) ≡ false
      → p.position + length p.head.items + length bs ≤ INPUT_LIMIT → length p.head.items + length bs < 8 → reading new None ≡ record (reading p None) { head = p.head.items ++ bs }
      → Feeds bars step writes (reading p None) s held (reading new) s held bs (Ok x)
  unfolding are_nested
  heads_in p [] s held new bs x e nested left free within short h = absurd (cc)
  heads_in p (inner ∷ outer) s held new bs x e nested left free within short h =
      let at : (z : List ℕ) → record (reading p None) { head = z } ≡ in_head bars step writes p.position z (held_sign p) (inner ∷ outer) =
      λ z. ap (λ (n : ℕ). record { position = p.position; head = z; left = n; sign = held_sign p; levels = p.levels; halt = None }) left ∙ ap (λ (ls : List Level). record { position = p.position; head = z; left = 0; sign = held_sign p; levels = ls; halt = None }) e in
      subst (λ (r : Reading). Feeds bars step writes r s held (reading new) s held bs (Ok x)) (sym (at p.head.items))
      (feeds_head bars step writes p.position p.head.items (held_sign p) inner outer s held (reading new) bs x within free short (h ∙ at (p.head.items ++ bs)))

  pub heads_at : {T : Type 0} (p : Cursor) (s : S) (held : Option (List ℕ)) (new : Cursor) (bs : List ℕ) (x : T) → Stands (reading p None) → p.left ≡ 0
      → p.position + length p.head.items + length bs ≤ INPUT_LIMIT → length p.head.items + length bs < 8 → reading new None ≡ record (reading p None) { head = p.head.items ++ bs }
      → Feeds bars step writes (reading p None) s held (reading new) s held bs (Ok x)
  heads_at p s held new bs x stands left within short h = heads_in p p.levels s held new bs x refl stands.small.nested left (stands.small.room_for refl left) within short h
