-- A display by Specific Character Set that is not cut.
use Rattle.std.proofs.Common.{◌≡◌, ◌≤◌, ◌<◌, ℕ, ◌+◌, ◌-◌, ◌==◌, true, false, cond, List, [], ◌∷◌, ◌++◌, length, take, replicate, codes, ap, sym, ◌∙◌, refl, arith, append_assoc, le-ltb}
use Rattle.std.specs.Prelude.{nat_le, flat_map}
use Rattle.std.proofs.lemmas.Bool.{false≢true}
use Rattle.std.proofs.lemmas.Bool.Decides.{nat_tests}
use Rattle.std.proofs.lemmas.List.{length-append}
use Rattle.dcm_base.specs.declared.vr.Vr.{Vr}
use Rattle.dcm_base.specs.declared.mode.Mode.{Mode}
use Rattle.dcm_base.specs.declared.mode.Mode.TheVariants.{Short, Full}
use Rattle.dcm_base.specs.Dump.ValueText.{unpadded, padded, is_single}
use Rattle.dcm_text.specs.declared.set.TextKind.{TextKind}
use Rattle.dcm_text.specs.declared.sets.Sets.{Sets}
use Rattle.dcm_text.specs.Decoding.{decoded}
use Rattle.dcm_text.specs.Runs.{State, begun, run}
use Rattle.dcm_text.specs.Shown.{dumped, dumped_piece}
use Rattle.dcm_text.proofs.Runs.{whole_run}
use Rattle.dcm_value.specs.Decoded.{backslashes, cut_size}
use Rattle.dcm_value.specs.DecodedProgress.{sets_for, kind_of, is_named, decoded_identified, shown_pieces}
use Rattle.dcm_value.specs.DecodedDisplay.{decoded_display, decoded_count, decoded_shortened}

-- it is the same in both modes
pub not_cut : (mode : Mode) (d : List ℕ) → length d ≤ 66 → decoded_shortened mode d ≡ d
not_cut Short d few = ap (λ b. cond b (take (cut_size d) d ++ codes "...") d) (le-ltb 66 (length d) few)
not_cut Full d few = refl

pub too_long : (n : ℕ) → nat_le n 66 ≡ false → 66 < n
too_long n e = grind (arith, nat_tests)

pub fits_in : (n : ℕ) → nat_le n 66 ≡ true → n ≤ 66
fits_in n e = grind (arith, nat_tests)

pub long_not : (n : ℕ) → 66 < n → nat_le n 66 ≡ false
long_not n l = grind (arith, nat_tests)

pub short_is : (n : ℕ) → n ≤ 66 → nat_le n 66 ≡ true
short_is n l = grind (arith, nat_tests)

-- what does not fit in front does not fit
pub front_too_long : (shown bytes rest whole : List ℕ) → shown ++ (bytes ++ rest) ≡ whole → nat_le (length shown + length bytes) 66 ≡ false → 66 < length whole
front_too_long shown bytes rest whole e l =
    let long = too_long (length shown + length bytes) l in
    omega (arith, long, ap length e, length-append shown (bytes ++ rest), length-append bytes rest)

-- parts behind others
pub parts_on : (shown now bytes rest whole all : List ℕ) → shown ++ whole ≡ all → whole ≡ bytes ++ rest → now ≡ shown ++ bytes → now ++ rest ≡ all
parts_on shown now bytes rest whole all e f g = ap (λ (x : List ℕ). x ++ rest) g ∙ append_assoc shown bytes rest ∙ ap (λ (x : List ℕ). shown ++ x) (sym f) ∙ e

-- a run over a whole text
pub run_dumped : (s : State) (sets : Sets) (kind : TextKind) (t : List ℕ) → s ≡ begun sets kind → shown_pieces (run true s t) ≡ dumped sets kind t
unfolding dumped
run_dumped s sets kind t e = ap (λ (x : State). shown_pieces (run true x t)) e ∙ ap (flat_map dumped_piece) (whole_run sets kind t)

pub run_counted : (s : State) (sets : Sets) (kind : TextKind) (t : List ℕ) → s ≡ begun sets kind → backslashes (run true s t).0 ≡ backslashes (decoded sets kind t)
run_counted s sets kind t e = ap (λ (x : State). backslashes (run true x t).0) e ∙ ap backslashes (whole_run sets kind t)

-- the display of a text
pub shown_display : (vr : Vr) (sets : Sets) (v : List ℕ) → (length v == 0) ≡ false → is_named vr (length v) ≡ false
    → decoded_display vr sets v ≡ codes "[" ++ dumped (sets_for vr sets) (kind_of vr) (unpadded vr v) ++ codes "]"
shown_display vr sets [] some text = absurd (false≢true (sym some))
shown_display vr sets (b ∷ bs) some text =
    let v : List ℕ = b ∷ bs in
    ap (λ t. cond t (decoded_identified (unpadded vr v)) (codes "[" ++ dumped (sets_for vr sets) (kind_of vr) (unpadded vr v) ++ codes "]")) text

pub shown_count : (vr : Vr) (sets : Sets) (v : List ℕ) → (length v == 0) ≡ false
    → decoded_count vr sets v ≡ cond (is_single vr) 1 (1 + backslashes (decoded (sets_for vr sets) (kind_of vr) (unpadded vr v)))
shown_count vr sets [] some = absurd (false≢true (sym some))
shown_count vr sets (b ∷ bs) some = refl

-- by what a text is read
pub same_text : (a b : Sets) (k l : TextKind) (t u : List ℕ) → a ≡ b → k ≡ l → t ≡ u → codes "[" ++ dumped a k t ++ codes "]" ≡ codes "[" ++ dumped b l u ++ codes "]"
same_text a b k l t u e f g = λ i. codes "[" ++ dumped (e i) (f i) (g i) ++ codes "]"

pub same_count : (a b : Sets) (k l : TextKind) (t u : List ℕ) → a ≡ b → k ≡ l → t ≡ u → backslashes (decoded a k t) ≡ backslashes (decoded b l u)
same_count a b k l t u e f g = λ i. backslashes (decoded (e i) (f i) (g i))

-- a line that shows all of it
pub line_shown : (line mid new d : List ℕ) (n : ℕ) → mid ≡ line ++ d → n ≡ length d → new ≡ mid ++ replicate (40 - n) 32 → new ≡ line ++ padded d
line_shown line mid new d n e f g =
    g ∙ ap (λ (x : List ℕ). x ++ replicate (40 - n) 32) e ∙ append_assoc line d (replicate (40 - n) 32) ∙ ap (λ (k : ℕ). line ++ (d ++ replicate (40 - k) 32)) f
