-- What stands written of a display in the end.
use Rattle.std.proofs.Common.{◌≡◌, ◌≤◌, ◌<◌, ℕ, ◌+◌, ◌-◌, min, List, ◌++◌, length, take, drop, replicate, codes, ap, sym, ◌∙◌, arith, append_assoc, cond, lt-ltb, le-ltb}
use Rattle.std.proofs.lemmas.Bool.{cases_lt}
use mathlib.Core.Logic.{⊎_elim}
use Rattle.std.proofs.lemmas.List.{take-append-le, take-append-drop, length-take, length-append, append-nil, take_all}
use Rattle.dcm_base.specs.declared.mode.Mode.{Mode}
use Rattle.dcm_base.specs.declared.mode.Mode.TheVariants.{Short, Full}
use Rattle.dcm_base.specs.Dump.ValueText.{padded, shortened}
use Rattle.dcm_value.specs.Display.{blank, emit, at_once, ending}
use Rattle.dcm_value.specs.Progress.{Progress, closing, finishes}
use Rattle.dcm_value.proofs.Displays.Emits.{emit_twice, emit_mode, once_append}

-- the first 63 bytes of the first 66
take_front : (d : List ℕ) → 66 < length d → take 63 (take 66 d) ≡ take 63 d
take_front d l = sym (take-append-le 63 (take 66 d) (drop 66 d) (omega (arith, length-take 66 d))) ∙ ap (take 63) (take-append-drop 66 d)

long_ends : (d : List ℕ) → 66 < length d → ending (emit (blank Short) d) ≡ padded (shortened Short d)
unfolding emit
long_ends d l =
    let cut : List ℕ = take 63 d ++ codes "..." in
    let full : 40 - length cut ≡ 0 = omega (arith, length-append (take 63 d) (codes "..."), length-take 63 d) in
    ap (λ b. cond b (take 63 (take 66 d) ++ codes "...") (padded (take 66 d))) (lt-ltb 66 (min 67 (0 + length d)) (omega arith))
    ∙ ap (λ zs. zs ++ codes "...") (take_front d l)
    ∙ sym (ap (λ b. padded (cond b cut d)) (lt-ltb 66 (length d) l) ∙ ap (λ k. cut ++ replicate k 32) full ∙ append-nil cut)

pub short_ends : (d : List ℕ) → length d ≤ 66 → ending (emit (blank Short) d) ≡ padded (shortened Short d)
unfolding emit
short_ends d l =
    ap (λ b. cond b (take 63 (take 66 d) ++ codes "...") (padded (take 66 d))) (le-ltb 66 (min 67 (0 + length d)) (omega arith))
    ∙ ap padded (take_all 66 d l)
    ∙ sym (ap (λ b. padded (cond b (take 63 d ++ codes "...") d)) (le-ltb 66 (length d) l))

-- at once and in the end
pub all_ends : (mode : Mode) (d : List ℕ) → at_once mode d ++ ending (emit (blank mode) d) ≡ padded (shortened mode d)
unfolding emit
all_ends Full d = ap (λ k. d ++ replicate k 32) (let e : 40 - min 67 (0 + length d) ≡ 40 - length d = omega arith in e)
all_ends Short d = ⊎_elim (long_ends d) (short_ends d) (cases_lt 66 (length d))

-- behind a text that was shown
pub finishes_all : (mode : Mode) (p : Progress) (t : List ℕ) → p.display ≡ emit (blank mode) t → at_once mode t ++ finishes p ≡ padded (shortened mode (t ++ closing p))
unfolding finishes
finishes_all mode p t is =
    let c : List ℕ = closing p in
    let same : p.display.mode ≡ mode = ap (λ d. d.mode) is ∙ emit_mode (blank mode) t in
    ap (λ m. at_once mode t ++ (at_once m c ++ ending (emit p.display c))) same
    ∙ sym (append_assoc (at_once mode t) (at_once mode c) (ending (emit p.display c)))
    ∙ ap (λ xs. xs ++ ending (emit p.display c)) (sym (once_append mode t c))
    ∙ ap (λ d. at_once mode (t ++ c) ++ ending d) (ap (λ d. emit d c) is ∙ emit_twice (blank mode) t c)
    ∙ all_ends mode (t ++ c)
