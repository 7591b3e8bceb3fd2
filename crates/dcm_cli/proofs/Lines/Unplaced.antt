-- The lines and the status of edits that found no place, by their mask.
use Rattle.std.proofs.Common.{◌≡◌, ◌∙◌, ap, sym, subst, ℕ, zero, suc, ◌+◌, ◌-◌, ◌*◌, ◌/◌, ◌%◌, ◌<◌, ◌≤◌, ◌^◌, List, [], ◌∷◌, ◌++◌, append_assoc, length, Bool, true, false, Option, refl, arith, inl, inr}
use Rattle.std.specs.Prelude.{Result, Ok, Err, is_err, ◌==◌, if◌then◌else◌}
use Rattle.std.specs.Io.KnownBytes.{append_known}
use native.Mathlib.Numerals.{unary_clauses}
use Rattle.std.proofs.lemmas.List.{append-nil}
use Rattle.dcm_lemmas.proofs.Options.{known_twice}
use Rattle.dcm_devices.specs.Device.{AppendsFront, Puts, Tells}
use Rattle.dcm_base.specs.Tree.Front.{Front}
use Rattle.dcm_devices.proofs.Writes.Puts.{front_longer, puts_behind}
use Rattle.dcm_edits.specs.Edit.{Edit, found}
use Rattle.dcm_cli.specs.Answer.{unplaced_lines, status_of_lines}
use Rattle.dcm_cli.specs.Run.{unplaced_mask, mask_status}
use Rattle.dcm_cli.specs.ErrorLines.{Tries, mask_lines, line_where, unplaced_line}
use Rattle.dcm_cli.proofs.Passes.Alone.{put_failed, put_whole}

-- a mask without bits
pub no_lines : (count n : ℕ) → mask_lines count n 0 ≡ []
unfolding mask_lines
no_lines zero n = refl
no_lines (suc count) n = no_lines count (suc n)

-- no edits
pub few_without : (set : Front) → unplaced_mask [] set < 2 ^ 64
unfolding unplaced_mask
few_without set = omega arith

-- ---- the lines

-- the lowest bit, and those above it
bit_lines : (bit : Bool) (count n rest mask : ℕ) → mask ≡ (if bit then 0 else 1) + 2 * rest → mask_lines (suc count) n mask ≡ line_where (if bit then false else true) n ++ mask_lines count (suc n) rest
unfolding mask_lines
bit_lines true count n rest mask e =
    let low : mask % 2 ≡ 0 = omega (arith, e) in
    let high : mask / 2 ≡ rest = omega (arith, e) in
    ap (λ (m : ℕ). line_where (m == 1) n ++ mask_lines count (suc n) (mask / 2)) low ∙ ap (mask_lines count (suc n)) high
bit_lines false count n rest mask e =
    let low : mask % 2 ≡ 1 = omega (arith, e) in
    let high : mask / 2 ≡ rest = omega (arith, e) in
    ap (λ (m : ℕ). line_where (m == 1) n ++ mask_lines count (suc n) (mask / 2)) low ∙ ap (λ (m : ℕ). unplaced_line n ++ mask_lines count (suc n) m) high

no_bit : (bit : Bool) (rest : ℕ) → (if bit then 0 else 1) + 2 * rest < 1 → (bit ≡ true) × (rest < 1)
no_bit true rest h = (refl, omega (arith, h))
no_bit false rest h = absurd (omega (arith, h))

line_on : (bit : Bool) (n : ℕ) (more lines : List ℕ) → more ≡ lines → line_where (if bit then false else true) n ++ more ≡ (if bit then lines else unplaced_line n ++ lines)
line_on true n more lines e = e
line_on false n more lines e = ap (λ (bs : List ℕ). unplaced_line n ++ bs) e

placed_on : (bit : Bool) (n : ℕ) (lines : List ℕ) → bit ≡ true → [] ≡ lines → [] ≡ (if bit then lines else unplaced_line n ++ lines)
placed_on true n lines is e = e
placed_on false n lines is e = absurd (cc)

below_half : (bit : Bool) (rest power : ℕ) → (if bit then 0 else 1) + 2 * rest < power * 2 → rest < power
below_half true rest power h = omega (arith, h)
below_half false rest power h = omega (arith, h)

lines_none : (n mask : ℕ) → mask_lines zero n mask ≡ []
unfolding mask_lines
lines_none n mask = refl

twice_power : (count : ℕ) → 2 ^ suc count ≡ 2 ^ count * 2
twice_power count = simp unary_clauses refl

-- the lines of a mask are those of its edits
pub lines_of_mask : (count n : ℕ) (edits : List Edit) (set : Front) → unplaced_mask edits set < 2 ^ count → mask_lines count n (unplaced_mask edits set) ≡ unplaced_lines n edits set
unfolding unplaced_mask
lines_of_mask count n [] set short = no_lines count n
lines_of_mask zero n (e ∷ edits) set short =
    let none = no_bit (found e set) (unplaced_mask edits set) short in
    lines_none n ((if found e set then 0 else 1) + 2 * unplaced_mask edits set)
    ∙ placed_on (found e set) n (unplaced_lines (suc n) edits set) none.0 (sym (lines_none (suc n) (unplaced_mask edits set)) ∙ lines_of_mask zero (suc n) edits set none.1)
lines_of_mask (suc count) n (e ∷ edits) set short =
    let rest = unplaced_mask edits set in
    bit_lines (found e set) count n rest ((if found e set then 0 else 1) + 2 * rest) refl
    ∙ line_on (found e set) n (mask_lines count (suc n) rest) (unplaced_lines (suc n) edits set) (lines_of_mask count (suc n) edits set (below_half (found e set) rest (2 ^ count) (subst (λ (power : ℕ). (if found e set then 0 else 1) + 2 * rest < power) (twice_power count) short)))

-- so many edits have a mask of so many bits
some_power : (count : ℕ) → 0 < 2 ^ count
some_power zero = omega arith
some_power (suc count) = let less = some_power count in subst (λ (power : ℕ). 0 < power) (sym (twice_power count)) (omega (arith, less))

bit_more : (bit : Bool) (rest power : ℕ) → rest < power → (if bit then 0 else 1) + 2 * rest < power * 2
bit_more true rest power h = omega (arith, h)
bit_more false rest power h = omega (arith, h)

pub few_edits : (count : ℕ) (edits : List Edit) (set : Front) → length edits ≤ count → unplaced_mask edits set < 2 ^ count
unfolding unplaced_mask
few_edits count [] set few = some_power count
few_edits zero (e ∷ edits) set few = absurd (omega (arith, few))
few_edits (suc count) (e ∷ edits) set few =
    subst (λ (power : ℕ). (if found e set then 0 else 1) + 2 * unplaced_mask edits set < power) (sym (twice_power count))
    (bit_more (found e set) (unplaced_mask edits set) (2 ^ count) (few_edits count edits set (omega (arith, few))))

-- ---- the status

some_status : (mask : ℕ) → 0 < mask → mask_status mask ≡ 3
some_status zero some = absurd (omega (arith, some))
some_status (suc mask) some = refl

twice_status : (rest : ℕ) → mask_status (0 + 2 * rest) ≡ mask_status rest
twice_status zero = refl
twice_status (suc rest) = some_status (0 + 2 * suc rest) (omega arith)

status_on : (bit : Bool) (n rest : ℕ) (lines : List ℕ) → mask_status rest ≡ status_of_lines lines → mask_status ((if bit then 0 else 1) + 2 * rest) ≡ status_of_lines (if bit then lines else unplaced_line n ++ lines)
status_on true n rest lines e = twice_status rest ∙ e
status_on false n rest lines e = some_status (1 + 2 * rest) (omega arith)

pub status_of_mask : (n : ℕ) (edits : List Edit) (set : Front) → mask_status (unplaced_mask edits set) ≡ status_of_lines (unplaced_lines n edits set)
unfolding unplaced_mask
status_of_mask n [] set = refl
status_of_mask n (e ∷ edits) set = status_on (found e set) n (unplaced_mask edits set) (unplaced_lines (suc n) edits set) (status_of_mask (suc n) edits set)

-- ---- what was told of them

-- the line of the next edit, and those after it
next_line : (number rest : ℕ) → number < 65 → mask_lines (65 - number) number rest ≡ line_where (rest % 2 == 1) number ++ mask_lines (65 - (number + 1)) (number + 1) (rest / 2)
unfolding mask_lines
next_line number rest small =
    let more : 65 - number ≡ suc (65 - (number + 1)) = omega (arith, small) in
    let next : suc number ≡ number + 1 = omega arith in
    ap (λ (count : ℕ). mask_lines count number rest) more ∙ ap (λ (n : ℕ). line_where (rest % 2 == 1) number ++ mask_lines (65 - (number + 1)) n (rest / 2)) next

no_line : (number rest : ℕ) → 65 ≤ number → mask_lines (65 - number) number rest ≡ []
unfolding mask_lines
no_line number rest last = let none : 65 - number ≡ 0 = omega (arith, last) in ap (λ (count : ℕ). mask_lines count number rest) none

told_well : {T E : Type 0} (old new : Bool) (r : Result T E) → is_err r ≡ false → Tells old new r → new ≡ old
told_well old new (Ok x) e h = h
told_well old new (Err x) e h = cc

told_badly : {T E : Type 0} (old new : Bool) (r : Result T E) → is_err r ≡ true → Tells old new r → new ≡ true
told_badly old new (Ok x) e h = cc
told_badly old new (Err x) e h = h

-- lines were told up to that of an edit
module _ (held mid : Option (List ℕ)) (old now : Bool) (all front : List ℕ) (number rest : ℕ)
    (whole : all ≡ front ++ mask_lines (65 - number) number rest) (grown : mid ≡ append_known held front) (fine : now ≡ old) where
  -- none is left
  pub all_told : 65 ≤ number → Tries held mid old now all
  all_told last = inl (grown ∙ ap (append_known held) (sym (whole ∙ ap (λ (bs : List ℕ). front ++ bs) (no_line number rest last) ∙ append-nil front)), fine)

  module _ {T E : Type 0} (small : number < 65) (holds : Option (List ℕ)) (after : Bool) (r : Result T E) (bytes : Puts mid holds (line_where (rest % 2 == 1) number) r) (tells : Tells now after r) where
    abbrev line : List ℕ
    line = line_where (rest % 2 == 1) number

    abbrev more : List ℕ
    more = mask_lines (65 - (number + 1)) (number + 1) (rest / 2)

    pub told_whole : all ≡ (front ++ line) ++ more
    told_whole = whole ∙ ap (λ (bs : List ℕ). front ++ bs) (next_line number rest small) ∙ sym (append_assoc front line more)

    -- the next line fails
    pub told_begun : is_err r ≡ true → Tries held holds old after all
    told_begun e =
        inr (subst (AppendsFront held holds) (sym told_whole) (front_longer more (puts_behind {T = Unit {0}} {E = Unit {0}} held mid holds front line (Err tt) grown (put_failed mid holds line r e bytes))), told_badly now after r e tells)

    -- or goes out
    pub told_more : is_err r ≡ false → holds ≡ append_known held (front ++ line)
    told_more e = put_whole mid holds line r e bytes ∙ ap (λ (known : Option (List ℕ)). append_known known line) grown ∙ known_twice held front line

    pub told_fine : is_err r ≡ false → after ≡ old
    told_fine e = told_well now after r e tells ∙ fine
