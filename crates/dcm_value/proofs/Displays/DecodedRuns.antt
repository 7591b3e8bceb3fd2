-- Runs over the pieces of a text: what they show, and how many backslashes are among them.
use Rattle.std.proofs.Common.{◌≡◌, ◌≤◌, ℕ, zero, suc, ◌+◌, Bool, true, false, cond, List, [], ◌∷◌, ◌++◌, length, take, Option, Some, None}
use Rattle.std.proofs.Common.{refl, sym, ap, ◌∙◌, arith, append-nil, length-append, length-drop}
use Rattle.std.specs.Prelude.{◌==◌}
use Rattle.std.proofs.lemmas.Grind.{flat_map-append}
use Rattle.std.proofs.lemmas.List.Sums.{sum_by-cons, sum_by-append}
use Rattle.dcm_text.specs.declared.first.Found.{Found}
use Rattle.dcm_text.specs.Decoding.{Piece}
use Rattle.dcm_text.specs.Runs.{State, Run, with_bytes, behind_found, found_in, onto, run_by, run, joined}
use Rattle.dcm_text.specs.Shown.{dumped_piece}
use Rattle.dcm_text.proofs.Pieces.{found_sized}
use Rattle.dcm_text.proofs.Runs.{two_pieces}
use Rattle.dcm_value.specs.Decoded.{is_backslash, backslashes}
use Rattle.dcm_value.specs.DecodedProgress.{shown_pieces}

-- ---- no more backslashes than bytes

abbrev pub Few : State → Run → Type 0
Few s r = backslashes r.0 + length r.1.held ≤ length s.held

abbrev pub step_of : (n : ℕ) (at_end : Bool) (s : State) → Option Found → Run
step_of n at_end s o = elim o [
  | None ↦ ([], s)
  | Some f ↦ onto (take f.size s.held, f.meaning) (run_by n at_end (behind_found s f))
]

few_step : (n : ℕ) (at_end : Bool) (s : State) (o : Option Found) → found_in at_end s ≡ o
    → ((f : Found) → Few (behind_found s f) (run_by n at_end (behind_found s f))) → Few s (step_of n at_end s o)
few_step n at_end s None e rec = omega arith
few_step n at_end s (Some f) e rec =
    let z = found_sized at_end s.sets s.kind s.halves s.held f e in
    let d = length-drop f.size s.held in
    let p : Piece = (take f.size s.held, f.meaning) in
    let q : Run = run_by n at_end (behind_found s f) in
    let c : backslashes (p ∷ q.0) ≡ cond (is_backslash f.meaning) 1 0 + backslashes q.0 = sum_by-cons (λ (x : Piece). cond (is_backslash x.1) 1 0) p q.0 in
    omega (arith, z.0, z.1, d, c, at_most (is_backslash f.meaning), rec f)
  where
    at_most : (t : Bool) → cond t 1 0 ≤ 1
    at_most true = omega arith
    at_most false = omega arith

few_by : (n : ℕ) (at_end : Bool) (s : State) → Few s (run_by n at_end s)
few_by zero at_end s = omega arith
few_by (suc n) at_end s = few_step n at_end s (found_in at_end s) refl (λ f. few_by n at_end (behind_found s f))

pub few_run : (at_end : Bool) (s : State) (v : List ℕ)
    → backslashes (run at_end s v).0 + length (run at_end s v).1.held ≤ length s.held + length v
unfolding run
few_run at_end s v =
    let l = few_by (length (s.held ++ v)) at_end (with_bytes s v) in
    omega (arith, l, length-append s.held v)

-- ---- one run and another

pub shown_joined : (r q : Run) → shown_pieces (joined r q) ≡ shown_pieces r ++ shown_pieces q
shown_joined r q = flat_map-append dumped_piece r.0 q.0

pub backslashes_joined : (r q : Run) → backslashes (joined r q).0 ≡ backslashes r.0 + backslashes q.0
backslashes_joined r q = sum_by-append (λ (x : Piece). cond (is_backslash x.1) 1 0) r.0 q.0

-- nothing is decided where nothing comes
abbrev pub decided : State → List ℕ → Run
decided s [] = ([], s)
decided s (b ∷ bs) = run false s (b ∷ bs)

pub decided_more : (s : State) (v w : List ℕ) → decided s (v ++ w) ≡ joined (decided s v) (decided (decided s v).1 w)
decided_more s [] w = refl
decided_more s (b ∷ bs) [] =
    ap (decided s) (append-nil (b ∷ bs))
    ∙ ap (λ (ps : List Piece). let r : Run = (ps, (run false s (b ∷ bs)).1) in r) (sym (append-nil (run false s (b ∷ bs)).0))
decided_more s (b ∷ bs) (c ∷ cs) = two_pieces false s (b ∷ bs) (c ∷ cs)

pub decided_some : (s : State) (v : List ℕ) → (length v == 0) ≡ false → decided s v ≡ run false s v
decided_some s [] e = absurd cc
decided_some s (b ∷ bs) e = refl

-- and the end decides nothing where nothing waits
pub run_nothing : (at_end : Bool) (s : State) → length s.held ≡ 0 → run at_end s [] ≡ ([], s)
unfolding run
run_nothing at_end s none = of_held s.held none
  where
    of_held : (h : List ℕ) → length h ≡ 0 → (let t : State = record s { held = h } in run_by (length (h ++ [])) at_end (with_bytes t []) ≡ ([], t))
    of_held [] e = refl
    of_held (b ∷ bs) e = absurd (omega arith)
