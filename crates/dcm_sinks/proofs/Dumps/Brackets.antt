-- A value whose opening bracket stands, where it has one.
use Rattle.std.proofs.Common.{◌≡◌, ◌∙◌, ap, sym, refl, ℕ, ◌+◌, ◌≤◌, List, [], ◌∷◌, ◌++◌, length, Bool, true, false, ◌&&◌, cond, arith, eqb, eq-eqb, inr, ◌⊎◌}
use Rattle.std.specs.Prelude.{fold, nat_lt, min, codes, ◌==◌}
use Rattle.std.proofs.lemmas.Bool.{ne_eqb, false≢true}
use Rattle.dcm_base.specs.Steps.Steps.{outputs}
use Rattle.dcm_value.specs.Display.{Display, emit, at_once}
use Rattle.dcm_value.proofs.Displays.Emits.{emit_mode, once_none}
use Rattle.dcm_value.specs.Progress.{Progress, way, is_bracketed, is_unopened, opening, opened, adds, step, writes, feeds}

-- where a test of three is false, it stays so with more shown
later_shown : (n m : ℕ) → n == 0 ≡ false → n ≤ m → m == 0 ≡ false
later_shown n m e le = ne_eqb m 0 (λ z. let t : eqb n 0 ≡ true = eq-eqb n 0 (omega arith) in false≢true (sym e ∙ t))

pub still : (a b : Bool) (n m : ℕ) → (a && (b && n == 0)) ≡ false → n ≤ m → m ≤ 67 ⊎ (n ≤ m) → (a && (b && m == 0)) ≡ false
still false b n m e le h = refl
still true false n m e le h = refl
still true true n m e le h = later_shown n m e le

pub emitted : (d : Display) (bytes : List ℕ) → d.shown ≤ 67 → d.shown ≤ (emit d bytes).shown
unfolding emit
emitted d bytes h = omega arith

pub capped : (d : Display) (bytes : List ℕ) → (emit d bytes).shown ≤ 67
unfolding emit
capped d bytes = omega arith

-- one byte more
pub begun_step : (p : Progress) (b : ℕ) → p.display.shown ≤ 67 → is_unopened p ≡ false → is_unopened (step p b) ≡ false
unfolding step
begun_step p b h e = still (is_bracketed (way p)) (nat_lt 0 p.size) p.display.shown (emit p.display (adds p b)).shown e (emitted p.display (adds p b) h) (inr (emitted p.display (adds p b) h))

pub capped_step : (p : Progress) (b : ℕ) → (step p b).display.shown ≤ 67
unfolding step
capped_step p b = capped p.display (adds p b)

pub begun_fold : (p : Progress) (bytes : List ℕ) → p.display.shown ≤ 67 → is_unopened p ≡ false → is_unopened (fold step p bytes) ≡ false
begun_fold p [] h e = e
begun_fold p (b ∷ bs) h e = begun_fold (step p b) bs (capped_step p b) (begun_step p b h e)

bracket_at : (t : Bool) (n : ℕ) → n == 0 ≡ t → (min 67 (n + length (cond t (codes "[") [])) == 0) ≡ false
bracket_at true n e = ne_eqb (min 67 (n + 1)) 0 (λ z. omega (arith, z))
bracket_at false n e = ne_eqb (min 67 (n + 0)) 0 (λ z. let t : eqb n 0 ≡ true = eq-eqb n 0 (omega (arith, z)) in false≢true (sym e ∙ t))

pub bracket : (a b : Bool) (n : ℕ) → (a && (b && (min 67 (n + length (cond (a && (b && n == 0)) (codes "[") []))) == 0)) ≡ false
bracket false b n = refl
bracket true false n = refl
bracket true true n = bracket_at (n == 0) n refl

-- a value that was opened
pub begun_opened : (p : Progress) → is_unopened (opened p) ≡ false
unfolding opened emit
begun_opened p = bracket (is_bracketed (way p)) (nat_lt 0 p.size) p.display.shown

pub capped_opened : (p : Progress) → (opened p).display.shown ≤ 67
unfolding opened
capped_opened p = capped p.display (opening p)

pub no_opening : (p : Progress) → is_unopened p ≡ false → opening p ≡ []
no_opening p e = ap (λ (t : Bool). cond t (codes "[") []) e

-- nothing more opens it
pub opened_same : (p : Progress) → is_unopened p ≡ false → p.display ≡ emit p.display [] → opened p ≡ p
unfolding opened
opened_same p e settled = ap (λ bytes. let q : Progress = record p { display = emit p.display bytes } in q) (no_opening p e) ∙ ap (λ (d : Display). let q : Progress = record p { display = d } in q) (sym settled)

-- and its bytes are shown behind it
pub feeds_same : (p : Progress) (bytes : List ℕ) → is_unopened p ≡ false → p.display ≡ emit p.display [] → feeds p bytes ≡ outputs step writes p bytes
feeds_same p bytes e settled =
    ap (λ opens. at_once p.display.mode opens ++ outputs step writes (opened p) bytes) (no_opening p e)
    ∙ ap (λ none. none ++ outputs step writes (opened p) bytes) (once_none p.display.mode)
    ∙ ap (λ q. outputs step writes q bytes) (opened_same p e settled)

pub begun_behind : (p : Progress) (bytes : List ℕ) → is_unopened p ≡ false → p.display ≡ emit p.display [] → p.display.shown ≤ 67 → is_unopened (fold step (opened p) bytes) ≡ false
begun_behind p bytes e settled h = ap (λ q. is_unopened (fold step q bytes)) (opened_same p e settled) ∙ begun_fold p bytes h e

-- the mode stays
pub opened_mode : (p : Progress) → (opened p).display.mode ≡ p.display.mode
unfolding opened
opened_mode p = emit_mode p.display (opening p)

step_mode : (p : Progress) (b : ℕ) → (step p b).display.mode ≡ p.display.mode
unfolding step
step_mode p b = emit_mode p.display (adds p b)

pub fold_mode : (p : Progress) (bytes : List ℕ) → (fold step p bytes).display.mode ≡ p.display.mode
fold_mode p [] = refl
fold_mode p (b ∷ bs) = fold_mode (step p b) bs ∙ step_mode p b
