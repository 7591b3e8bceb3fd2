-- What stands written of a text by Specific Character Set in the end.
use Rattle.std.proofs.Common.{◌≡◌, ◌≤◌, ◌<◌, ℕ, ◌+◌, ◌-◌, min, Bool, true, false, cond, List, ◌++◌, length, take, drop, replicate, slice_index, codes, ap, sym, ◌∙◌, arith, append_assoc, lt-ltb, le-ltb, not}
use Rattle.std.proofs.lemmas.Bool.{cases_lt}
use mathlib.Core.Logic.{⊎_elim}
use Rattle.std.proofs.Math.ListN.{get_or-append}
use Rattle.std.proofs.lemmas.List.{take-append-le, take-append-drop, length-take, length-append, append-nil}
use Rattle.dcm_base.specs.declared.mode.Mode.{Mode}
use Rattle.dcm_base.specs.declared.mode.Mode.TheVariants.{Short, Full}
use Rattle.dcm_base.specs.Dump.ValueText.{padded, shortened}
use Rattle.dcm_value.specs.Display.{blank, emit, at_once, ending}
use Rattle.dcm_value.specs.Decoded.{goes_on, cut_size, decoded_ending}
use Rattle.dcm_value.specs.DecodedProgress.{DecodedProgress, closing, finishes}
use Rattle.dcm_value.specs.DecodedDisplay.{decoded_shortened}
use Rattle.dcm_value.proofs.Displays.Emits.{emit_twice, emit_mode, once_append}
use Rattle.dcm_value.proofs.Displays.Endings.{short_ends, all_ends}

-- how many bytes are left, by three tests
abbrev size_by : (a b c : Bool) → ℕ
size_by a b c = cond a 63 (cond b 62 (cond c 61 60))

pub cut_bounds : (d : List ℕ) → (60 ≤ cut_size d) × (cut_size d ≤ 63)
cut_bounds d = go (not (goes_on (slice_index d 63))) (not (goes_on (slice_index d 62))) (not (goes_on (slice_index d 61)))
  where
    go : (a b c : Bool) → (60 ≤ size_by a b c) × (size_by a b c ≤ 63)
    go true b c = (omega arith, omega arith)
    go false true c = (omega arith, omega arith)
    go false false true = (omega arith, omega arith)
    go false false false = (omega arith, omega arith)

-- the front tells how many
index_front : (d : List ℕ) (k : ℕ) → 66 < length d → k < 66 → slice_index (take 66 d) k ≡ slice_index d k
index_front d k long l =
    sym (get_or-append (take 66 d) (drop 66 d) 0 k (omega (arith, length-take 66 d)))
    ∙ ap (λ (x : List ℕ). slice_index x k) (take-append-drop 66 d)

cut_front : (d : List ℕ) → 66 < length d → cut_size (take 66 d) ≡ cut_size d
cut_front d long =
    let by : ℕ → ℕ → ℕ → ℕ = λ x y z. size_by (not (goes_on x)) (not (goes_on y)) (not (goes_on z)) in
    ap (λ x. by x (slice_index (take 66 d) 62) (slice_index (take 66 d) 61)) (index_front d 63 long (omega arith))
    ∙ ap (λ y. by (slice_index d 63) y (slice_index (take 66 d) 61)) (index_front d 62 long (omega arith))
    ∙ ap (λ z. by (slice_index d 63) (slice_index d 62) z) (index_front d 61 long (omega arith))

take_front : (n : ℕ) (d : List ℕ) → 66 < length d → n ≤ 63 → take n (take 66 d) ≡ take n d
take_front n d long l =
    sym (take-append-le n (take 66 d) (drop 66 d) (omega (arith, length-take 66 d))) ∙ ap (take n) (take-append-drop 66 d)

long_ends : (d : List ℕ) → 66 < length d → decoded_ending (emit (blank Short) d) ≡ padded (decoded_shortened Short d)
unfolding emit
long_ends d long =
    let front : List ℕ = take 66 d in
    let cut : List ℕ = take (cut_size d) d ++ codes "..." in
    let full : 40 - length cut ≡ 0 = omega (arith, cut_bounds d, length-append (take (cut_size d) d) (codes "..."), length-take (cut_size d) d) in
    ap (λ b. cond b (take (cut_size front) front ++ codes "...") (ending (emit (blank Short) d))) (lt-ltb 66 (min 67 (0 + length d)) (omega arith))
    ∙ ap (λ n. take n front ++ codes "...") (cut_front d long)
    ∙ ap (λ x. x ++ codes "...") (take_front (cut_size d) d long (cut_bounds d).1)
    ∙ sym (ap (λ b. padded (cond b cut d)) (lt-ltb 66 (length d) long) ∙ ap (λ k. cut ++ replicate k 32) full ∙ append-nil cut)

few_ends : (d : List ℕ) → length d ≤ 66 → decoded_ending (emit (blank Short) d) ≡ padded (decoded_shortened Short d)
unfolding emit
few_ends d few =
    let front : List ℕ = take 66 d in
    ap (λ b. cond b (take (cut_size front) front ++ codes "...") (ending (emit (blank Short) d))) (le-ltb 66 (min 67 (0 + length d)) (omega arith))
    ∙ short_ends d few
    ∙ ap padded (uncut few ∙ sym (cut_not few))
  where
    uncut : length d ≤ 66 → shortened Short d ≡ d
    uncut few = ap (λ b. cond b (take 63 d ++ codes "...") d) (le-ltb 66 (length d) few)

    cut_not : length d ≤ 66 → decoded_shortened Short d ≡ d
    cut_not few = ap (λ b. cond b (take (cut_size d) d ++ codes "...") d) (le-ltb 66 (length d) few)

-- at once and in the end
decoded_ends : (mode : Mode) (d : List ℕ) → at_once mode d ++ decoded_ending (emit (blank mode) d) ≡ padded (decoded_shortened mode d)
unfolding emit
decoded_ends Full d = all_ends Full d
decoded_ends Short d = ⊎_elim (long_ends d) (few_ends d) (cases_lt 66 (length d))

-- behind a text that was shown
pub finishes_all : (mode : Mode) (p : DecodedProgress) (t : List ℕ) → p.display ≡ emit (blank mode) t
    → at_once mode t ++ finishes p ≡ padded (decoded_shortened mode (t ++ closing p))
unfolding finishes
finishes_all mode p t is =
    let c : List ℕ = closing p in
    let same : p.display.mode ≡ mode = ap (λ d. d.mode) is ∙ emit_mode (blank mode) t in
    ap (λ m. at_once mode t ++ (at_once m c ++ decoded_ending (emit p.display c))) same
    ∙ sym (append_assoc (at_once mode t) (at_once mode c) (decoded_ending (emit p.display c)))
    ∙ ap (λ xs. xs ++ decoded_ending (emit p.display c)) (sym (once_append mode t c))
    ∙ ap (λ d. at_once mode (t ++ c) ++ decoded_ending d) (ap (λ d. emit d c) is ∙ emit_twice (blank mode) t c)
    ∙ decoded_ends mode (t ++ c)
