-- A text by characters whose opening bracket stands, where it has one.
use Rattle.std.proofs.Common.{◌≡◌, ◌∙◌, ap, sym, refl, ℕ, ◌+◌, ◌≤◌, List, [], ◌∷◌, ◌++◌, length, Bool, false, cond, codes, arith, inr}
use Rattle.std.specs.Prelude.{fold, nat_lt, not}
use Rattle.dcm_base.specs.declared.mode.Mode.{Mode}
use Rattle.dcm_base.specs.declared.mode.Mode.TheVariants.{Short}
use Rattle.dcm_base.specs.Steps.Steps.{outputs}
use Rattle.dcm_value.specs.Display.{Display, emit, at_once}
use Rattle.dcm_value.proofs.Displays.Emits.{emit_mode, once_none}
use Rattle.dcm_value.specs.DecodedProgress.{DecodedProgress, is_named, is_unopened, opening, opening_writes, opened, adds, step, writes, feeds}
use Rattle.dcm_sinks.proofs.Dumps.Brackets.{still, emitted, capped, bracket}

-- ---- one byte

pub step_seen : (p : DecodedProgress) (b : ℕ) → (step p b).seen ≡ p.seen + 1
unfolding step
step_seen p b = refl

pub step_size : (p : DecodedProgress) (b : ℕ) → (step p b).size ≡ p.size
unfolding step
step_size p b = refl

pub step_mode : (p : DecodedProgress) (b : ℕ) → (step p b).display.mode ≡ p.display.mode
unfolding step
step_mode p b = emit_mode p.display (adds p b)

begun_step : (p : DecodedProgress) (b : ℕ) → p.display.shown ≤ 67 → is_unopened p ≡ false → is_unopened (step p b) ≡ false
unfolding step
begun_step p b h e = still (not (is_named p.vr p.size)) (nat_lt 0 p.size) p.display.shown (emit p.display (adds p b)).shown e (emitted p.display (adds p b) h) (inr (emitted p.display (adds p b) h))

capped_step : (p : DecodedProgress) (b : ℕ) → (step p b).display.shown ≤ 67
unfolding step
capped_step p b = capped p.display (adds p b)

-- in short mode nothing goes out of it
byte_short : (p : DecodedProgress) (b : ℕ) → p.display.mode ≡ Short → writes p b ≡ []
unfolding writes
byte_short p b e = ap (λ (m : Mode). at_once m (adds p b)) e

-- ---- what comes before the first byte

pub opened_seen : (p : DecodedProgress) → (opened p).seen ≡ p.seen
unfolding opened
opened_seen p = refl

pub opened_size : (p : DecodedProgress) → (opened p).size ≡ p.size
unfolding opened
opened_size p = refl

pub opened_mode : (p : DecodedProgress) → (opened p).display.mode ≡ p.display.mode
unfolding opened
opened_mode p = emit_mode p.display (opening p)

pub begun_opened : (p : DecodedProgress) → is_unopened (opened p) ≡ false
unfolding opened emit
begun_opened p = bracket (not (is_named p.vr p.size)) (nat_lt 0 p.size) p.display.shown

pub opening_short : (p : DecodedProgress) → p.display.mode ≡ Short → opening_writes p ≡ []
opening_short p e = ap (λ (m : Mode). at_once m (opening p)) e

no_opening : (p : DecodedProgress) → is_unopened p ≡ false → opening p ≡ []
no_opening p e = ap (λ (t : Bool). cond t (codes "[") []) e

-- nothing more opens it
pub opened_same : (p : DecodedProgress) → is_unopened p ≡ false → p.display ≡ emit p.display [] → opened p ≡ p
unfolding opened
opened_same p e settled =
    ap (λ (bytes : List ℕ). let q : DecodedProgress = record p { display = emit p.display bytes } in q) (no_opening p e)
    ∙ ap (λ (d : Display). let q : DecodedProgress = record p { display = d } in q) (sym settled)

-- and its bytes are shown behind it
pub feeds_same : (p : DecodedProgress) (bytes : List ℕ) → is_unopened p ≡ false → p.display ≡ emit p.display [] → feeds p bytes ≡ outputs step writes p bytes
feeds_same p bytes e settled =
    ap (λ (opens : List ℕ). at_once p.display.mode opens ++ outputs step writes (opened p) bytes) (no_opening p e)
    ∙ ap (λ (none : List ℕ). none ++ outputs step writes (opened p) bytes) (once_none p.display.mode)
    ∙ ap (λ (q : DecodedProgress). outputs step writes q bytes) (opened_same p e settled)

-- ---- over bytes

pub fold_seen : (p : DecodedProgress) (bytes : List ℕ) → (fold step p bytes).seen ≡ p.seen + length bytes
fold_seen p [] = omega arith
fold_seen p (b ∷ bs) = omega (arith, fold_seen (step p b) bs, step_seen p b)

pub fold_size : (p : DecodedProgress) (bytes : List ℕ) → (fold step p bytes).size ≡ p.size
fold_size p [] = refl
fold_size p (b ∷ bs) = fold_size (step p b) bs ∙ step_size p b

pub fold_mode : (p : DecodedProgress) (bytes : List ℕ) → (fold step p bytes).display.mode ≡ p.display.mode
fold_mode p [] = refl
fold_mode p (b ∷ bs) = fold_mode (step p b) bs ∙ step_mode p b

pub bytes_short : (p : DecodedProgress) (bytes : List ℕ) → p.display.mode ≡ Short → outputs step writes p bytes ≡ []
bytes_short p [] e = refl
bytes_short p (b ∷ bs) e =
    ap (λ (xs : List ℕ). xs ++ outputs step writes (step p b) bs) (byte_short p b e) ∙ bytes_short (step p b) bs (step_mode p b ∙ e)

begun_fold : (p : DecodedProgress) (bytes : List ℕ) → p.display.shown ≤ 67 → is_unopened p ≡ false → is_unopened (fold step p bytes) ≡ false
begun_fold p [] h e = e
begun_fold p (b ∷ bs) h e = begun_fold (step p b) bs (capped_step p b) (begun_step p b h e)

pub begun_behind : (p : DecodedProgress) (bytes : List ℕ) → is_unopened p ≡ false → p.display ≡ emit p.display [] → p.display.shown ≤ 67 → is_unopened (fold step (opened p) bytes) ≡ false
begun_behind p bytes e settled h = ap (λ (q : DecodedProgress). is_unopened (fold step q bytes)) (opened_same p e settled) ∙ begun_fold p bytes h e
