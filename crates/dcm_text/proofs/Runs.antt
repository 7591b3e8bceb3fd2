-- Runs over the pieces of a text.
use Rattle.std.proofs.Common.{◌≡◌, ℕ, zero, suc, ◌≤◌, Bool, true, false, List, [], ◌∷◌, ◌++◌, length, take, drop, Option, Some, None}
use Rattle.std.proofs.Common.{refl, sym, ap, subst, ◌∙◌, arith, append_assoc, length-drop}
use Rattle.std.proofs.lemmas.List.{take-append-le, drop-append-le}
use Rattle.std.specs.List.{concat}
use Rattle.dcm_text.specs.declared.set.Halves.{Halves}
use Rattle.dcm_text.specs.declared.set.TextKind.{TextKind}
use Rattle.dcm_text.specs.declared.sets.Sets.{Sets}
use Rattle.dcm_text.specs.declared.first.Found.{Found}
use Rattle.dcm_text.specs.declared.decoder.Decoder.{Decoder}
use Rattle.dcm_text.specs.declared.decoder.Part.{Part}
use Rattle.dcm_text.specs.First.{first_of, start_of}
use Rattle.dcm_text.specs.Decoding.{Piece, or_unknown, decoded_by, decoded_from, decoded, piece_of, Gives, Waits}
use Rattle.dcm_text.specs.Runs.{State, state_of, begun, with_bytes, behind_found, found_in, Run, onto, run_by, run, joined, run_pieces}
use Rattle.dcm_text.proofs.Pieces.{found_sized, found_whole, first_more}

-- ---- one step

step_of : (n : ℕ) (at_end : Bool) (s : State) → Option Found → Run
step_of n at_end s o = elim o [
  | None ↦ ([], s)
  | Some f ↦ onto (take f.size s.held, f.meaning) (run_by n at_end (behind_found s f))
]

none_by : (n : ℕ) (at_end : Bool) (s : State) → found_in at_end s ≡ None → run_by n at_end s ≡ ([], s)
unfolding step_of
none_by zero at_end s e = refl
none_by (suc n) at_end s e = ap (step_of n at_end s) e

some_by : (n : ℕ) (at_end : Bool) (s : State) (f : Found) → found_in at_end s ≡ Some f
    → run_by (suc n) at_end s ≡ onto (take f.size s.held, f.meaning) (run_by n at_end (behind_found s f))
unfolding step_of
some_by n at_end s f e = ap (step_of n at_end s) e

sized : (at_end : Bool) (s : State) (f : Found) → found_in at_end s ≡ Some f → (1 ≤ f.size) × (f.size ≤ length s.held)
sized at_end s f e = let z = found_sized at_end s.sets s.kind s.halves s.held f e in (z.0, z.1)

less : (at_end : Bool) (s : State) (f : Found) (n : ℕ) → found_in at_end s ≡ Some f → length s.held ≤ suc n → length (behind_found s f).held ≤ n
less at_end s f n e l = let z = sized at_end s f e in let d = length-drop f.size s.held in omega (arith, z.0, d)

-- as many steps as bytes are enough
enough : (n m : ℕ) (at_end : Bool) (s : State) → length s.held ≤ n → length s.held ≤ m → run_by n at_end s ≡ run_by m at_end s
enough zero m at_end s l k = by_found (found_in at_end s) refl
  where
    by_found : (o : Option Found) → found_in at_end s ≡ o → run_by zero at_end s ≡ run_by m at_end s
    by_found None e = none_by zero at_end s e ∙ sym (none_by m at_end s e)
    by_found (Some f) e = let z = sized at_end s f e in absurd (omega (arith, z.0, z.1))
enough (suc n) zero at_end s l k = by_found (found_in at_end s) refl
  where
    by_found : (o : Option Found) → found_in at_end s ≡ o → run_by (suc n) at_end s ≡ run_by zero at_end s
    by_found None e = none_by (suc n) at_end s e ∙ sym (none_by zero at_end s e)
    by_found (Some f) e = let z = sized at_end s f e in absurd (omega (arith, z.0, z.1))
enough (suc n) (suc m) at_end s l k = by_found (λ f x y. enough n m at_end (behind_found s f) x y) (found_in at_end s) refl
  where
    by_found : ((f : Found) → length (behind_found s f).held ≤ n → length (behind_found s f).held ≤ m
        → run_by n at_end (behind_found s f) ≡ run_by m at_end (behind_found s f))
        → (o : Option Found) → found_in at_end s ≡ o → run_by (suc n) at_end s ≡ run_by (suc m) at_end s
    by_found rec None e = none_by (suc n) at_end s e ∙ sym (none_by (suc m) at_end s e)
    by_found rec (Some f) e =
        some_by n at_end s f e
        ∙ ap (onto (take f.size s.held, f.meaning)) (rec f (less at_end s f n e l) (less at_end s f m e k))
        ∙ sym (some_by m at_end s f e)

-- ---- one piece and another

-- with bytes more, what was found in front is the same
found_before : (at_end : Bool) (s : State) (bytes : List ℕ) (f : Found) → found_in false s ≡ Some f
    → found_in at_end (with_bytes s bytes) ≡ Some f
found_before true s bytes f e = found_whole false s.sets s.kind s.halves s.held bytes f (λ h. absurd (no_end h)) e
  where
    no_end : false ≡ true → ⊥
    no_end h = cc
found_before false s bytes f e = first_more s.sets s.kind s.halves s.held bytes f e

behind_before : (at_end : Bool) (s : State) (bytes : List ℕ) (f : Found) → found_in false s ≡ Some f
    → (take f.size (s.held ++ bytes) ≡ take f.size s.held) × (behind_found (with_bytes s bytes) f ≡ with_bytes (behind_found s f) bytes)
behind_before at_end s bytes f e =
    let z = sized false s f e in (
      take-append-le f.size s.held bytes z.1,
      ap (λ (h : List ℕ). let x : State = record { sets = s.sets; kind = s.kind; halves = f.halves; held = h } in x) (drop-append-le f.size s.held bytes z.1),
    )

-- a run over what is held
abbrev pub run_from : Bool → State → Run
run_from at_end s = run_by (length s.held) at_end s

from_some : (at_end : Bool) (s : State) (f : Found) → found_in at_end s ≡ Some f
    → run_from at_end s ≡ onto (take f.size s.held, f.meaning) (run_from at_end (behind_found s f))
from_some at_end s f e =
    enough (length s.held) (suc (length s.held)) at_end s (omega arith) (omega arith)
    ∙ some_by (length s.held) at_end s f e
    ∙ ap (onto (take f.size s.held, f.meaning))
    (enough (length s.held) (length (behind_found s f).held) at_end (behind_found s f) (less at_end s f (length s.held) e (omega arith)) (omega arith))

split : (n : ℕ) (at_end : Bool) (s : State) (bytes : List ℕ) → length s.held ≤ n
    → run_from at_end (with_bytes s bytes) ≡ joined (run_by n false s) (run_from at_end (with_bytes (run_by n false s).1 bytes))
split zero at_end s bytes l = refl
split (suc n) at_end s bytes l = by_found (λ f x. split n at_end (behind_found s f) bytes x) (found_in false s) refl
  where
    by_found : ((f : Found) → length (behind_found s f).held ≤ n
        → run_from at_end (with_bytes (behind_found s f) bytes)
        ≡ joined (run_by n false (behind_found s f)) (run_from at_end (with_bytes (run_by n false (behind_found s f)).1 bytes)))
        → (o : Option Found) → found_in false s ≡ o
        → run_from at_end (with_bytes s bytes) ≡ joined (run_by (suc n) false s) (run_from at_end (with_bytes (run_by (suc n) false s).1 bytes))
    by_found rec None e =
        subst (λ (r : Run). run_from at_end (with_bytes s bytes) ≡ joined r (run_from at_end (with_bytes r.1 bytes))) (sym (none_by (suc n) false s e)) refl
    by_found rec (Some f) e =
        let same = behind_before at_end s bytes f e in
        let r = run_by n false (behind_found s f) in
        subst (λ (r : Run). run_from at_end (with_bytes s bytes) ≡ joined r (run_from at_end (with_bytes r.1 bytes))) (sym (some_by n false s f e))
        (from_some at_end (with_bytes s bytes) f (found_before at_end s bytes f e)
        ∙ ap (λ (t : List ℕ). onto (t, f.meaning) (run_from at_end (behind_found (with_bytes s bytes) f))) same.0
        ∙ ap (λ (x : State). onto (take f.size s.held, f.meaning) (run_from at_end x)) same.1
        ∙ ap (onto (take f.size s.held, f.meaning)) (rec f (less false s f n e l)))

-- ---- laws of runs

pub two_pieces : (at_end : Bool) (s : State) (v w : List ℕ) → run at_end s (v ++ w) ≡ joined (run false s v) (run at_end (run false s v).1 w)
unfolding run
two_pieces at_end s v w =
    ap (λ (h : List ℕ). let x : State = record { sets = s.sets; kind = s.kind; halves = s.halves; held = h } in run_from at_end x)
    (sym (append_assoc s.held v w))
    ∙ split (length (s.held ++ v)) at_end (with_bytes s v) w (omega arith)

whole_by : (n : ℕ) (sets : Sets) (kind : TextKind) (halves : Halves) (text : List ℕ)
    → (run_by n true (record { sets = sets; kind = kind; halves = halves; held = text })).0 ≡ decoded_by n sets kind halves text
whole_by zero sets kind halves text = refl
whole_by (suc n) sets kind halves [] = refl
whole_by (suc n) sets kind halves (b ∷ rest) =
    let f : Found = or_unknown halves (first_of sets kind halves (b ∷ rest)) in
    ap (λ (ps : List Piece). (take f.size (b ∷ rest), f.meaning) ∷ ps) (whole_by n sets kind f.halves (drop f.size (b ∷ rest)))

pub whole_run : (sets : Sets) (kind : TextKind) (text : List ℕ) → (run true (begun sets kind) text).0 ≡ decoded sets kind text
unfolding run decoded decoded_from
whole_run sets kind text = whole_by (length text) sets kind (start_of sets) text

pub all_pieces : (s : State) (pieces : List (List ℕ)) → run_pieces s pieces ≡ run true s (concat pieces)
all_pieces s [] = refl
all_pieces s (v ∷ others) =
    ap (joined (run false s v)) (all_pieces (run false s v).1 others) ∙ sym (two_pieces true s v (concat others))

pub pieces_decoded : (sets : Sets) (kind : TextKind) (pieces : List (List ℕ))
    → (run_pieces (begun sets kind) pieces).0 ≡ decoded sets kind (concat pieces)
pieces_decoded sets kind pieces = ap (λ (r : Run). r.0) (all_pieces (begun sets kind) pieces) ∙ whole_run sets kind (concat pieces)

-- ---- one call of a decoder

pub gives_run : (at_end : Bool) (old new : Decoder) (input rest : List ℕ) (p : Part)
    → Gives at_end old new (old.held.items ++ input) (new.held.items ++ rest) p
    → run at_end (state_of old) input ≡ onto (piece_of p) (run at_end (state_of new) rest)
unfolding run
gives_run at_end old new input rest p g =
    from_some at_end (with_bytes (state_of old) input) g.first g.is_first
    ∙ ap (λ (x : Piece). onto x (run_from at_end (behind_found (with_bytes (state_of old) input) g.first))) (sym g.piece)
    ∙ ap (λ (h : Halves). let x : State = record { sets = old.sets; kind = old.kind; halves = h; held = drop g.first.size (old.held.items ++ input) } in onto (piece_of p) (run_from at_end x)) (sym g.halves)
    ∙ ap (λ (h : List ℕ). let x : State = record { sets = old.sets; kind = old.kind; halves = new.halves; held = h } in onto (piece_of p) (run_from at_end x)) (sym g.left)
    ∙ ap (λ (s : Sets). let x : State = record { sets = s; kind = old.kind; halves = new.halves; held = new.held.items ++ rest } in onto (piece_of p) (run_from at_end x)) (sym g.same.0)
    ∙ ap (λ (k : TextKind). let x : State = record { sets = new.sets; kind = k; halves = new.halves; held = new.held.items ++ rest } in onto (piece_of p) (run_from at_end x)) (sym g.same.1)

pub waits_run : (at_end : Bool) (old new : Decoder) (input : List ℕ) → Waits at_end old new (old.held.items ++ input)
    → run at_end (state_of old) input ≡ ([], state_of new)
unfolding run
waits_run at_end old new input w =
    none_by (length (old.held.items ++ input)) at_end (with_bytes (state_of old) input) w.is_none
    ∙ ap (λ (h : Halves). let x : State = record { sets = old.sets; kind = old.kind; halves = h; held = old.held.items ++ input } in let r : Run = ([], x) in r) (sym w.halves)
    ∙ ap (λ (h : List ℕ). let x : State = record { sets = old.sets; kind = old.kind; halves = new.halves; held = h } in let r : Run = ([], x) in r) (sym w.held)
    ∙ ap (λ (s : Sets). let x : State = record { sets = s; kind = old.kind; halves = new.halves; held = new.held.items } in let r : Run = ([], x) in r) (sym w.same.0)
    ∙ ap (λ (k : TextKind). let x : State = record { sets = new.sets; kind = k; halves = new.halves; held = new.held.items } in let r : Run = ([], x) in r) (sym w.same.1)
