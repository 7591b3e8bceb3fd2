-- The cell of a column after bytes of a value.
use Rattle.std.proofs.Common.{◌≡◌, ◌∙◌, sym, ap, refl, ℕ, ◌+◌, ◌<◌, ◌≤◌, List, [], ◌∷◌, ◌++◌, length, fold, arith, append_assoc, true, false}
use Rattle.std.specs.Prelude.{nat_lt}
use Rattle.std.proofs.lemmas.Bool.{lt-ltb, cases_lt}
use mathlib.Core.Logic.{⊎_elim}
use Rattle.std.proofs.lemmas.List.{append-nil, length-append}
use Rattle.dcm_lemmas.proofs.Numbers.{not_below}
use Rattle.dcm_lemmas.proofs.Choice.{if_false, if_true}
use Rattle.dcm_base.specs.declared.vr.Vr.{Vr}
use Rattle.dcm_base.specs.declared.syntax.Syntax.{Syntax}
use Rattle.dcm_base.specs.Tree.Value.{order}
use Rattle.dcm_table.specs.declared.cell.Progress.{Progress}
use Rattle.dcm_table.specs.declared.cell.Progress.TheVariants.{Missing, Open, OpenTooLong, Whole, TooLong, NotShown}
use Rattle.dcm_table.specs.Cell.{Cell, missing, open_value, open_too_long, whole, too_long, not_shown, with_byte}
use Rattle.dcm_table.specs.Slots.{cell_of, is_open}

pub missing_stays : (v : List ℕ) → fold with_byte missing v ≡ missing
missing_stays [] = refl
missing_stays (b ∷ v) = missing_stays v

pub too_long_stays : (v : List ℕ) → fold with_byte open_too_long v ≡ open_too_long
too_long_stays [] = refl
too_long_stays (b ∷ v) = too_long_stays v

pub whole_stays : (shown : Vr) (value v : List ℕ) → fold with_byte (whole shown value) v ≡ whole shown value
whole_stays shown value [] = refl
whole_stays shown value (b ∷ v) = whole_stays shown value v

pub long_stays : (v : List ℕ) → fold with_byte too_long v ≡ too_long
long_stays [] = refl
long_stays (b ∷ v) = long_stays v

pub not_shown_stays : (v : List ℕ) → fold with_byte not_shown v ≡ not_shown
not_shown_stays [] = refl
not_shown_stays (b ∷ v) = not_shown_stays v

-- a cell whose value is not on its way stays
pub closed_stays : (p : Progress) (value v : List ℕ) → is_open p ≡ false → fold with_byte (cell_of p value) v ≡ cell_of p value
closed_stays Missing value v e = missing_stays v
closed_stays (Open vr shown s) value v e = cc
closed_stays OpenTooLong value v e = too_long_stays v
closed_stays (Whole shown) value v e = whole_stays shown value v
closed_stays TooLong value v e = long_stays v
closed_stays NotShown value v e = not_shown_stays v

module _ (vr shown : Vr) (s : Syntax) where
  pub fits : (held v : List ℕ) → length held + length v ≤ 16384 → fold with_byte (open_value vr shown s held) v ≡ open_value vr shown s (held ++ v)
  fits held [] h = ap (open_value vr shown s) (sym (append-nil held))
  fits held (b ∷ v) h =
      ap (λ (c : Cell). fold with_byte c v) (if_true (nat_lt (length held) 16384) (open_value vr shown s (held ++ b ∷ [])) open_too_long (lt-ltb (length held) 16384 (omega (arith, h))))
      ∙ fits (held ++ b ∷ []) v (omega (arith, h, length-append held (b ∷ [])))
      ∙ ap (open_value vr shown s) (append_assoc held (b ∷ []) v)

  pub passes : (held v : List ℕ) → length held ≤ 16384 → 16384 < length held + length v → fold with_byte (open_value vr shown s held) v ≡ open_too_long
  passes held [] h k = absurd (omega (arith, h, k))
  passes held (b ∷ v) h k =
      ⊎_elim
      (λ (some : length held < 16384).
      ap (λ (c : Cell). fold with_byte c v) (if_true (nat_lt (length held) 16384) (open_value vr shown s (held ++ b ∷ [])) open_too_long (lt-ltb (length held) 16384 some))
      ∙ passes (held ++ b ∷ []) v (omega (arith, some, length-append held (b ∷ []))) (omega (arith, k, length-append held (b ∷ []))))
      (λ (full : 16384 ≤ length held).
      ap (λ (c : Cell). fold with_byte c v) (if_false (nat_lt (length held) 16384) (open_value vr shown s (held ++ b ∷ [])) open_too_long (not_below (length held) 16384 full))
      ∙ too_long_stays v)
      (cases_lt (length held) 16384)

-- a value on its way takes bytes
pub open_takes : (p : Progress) (held v : List ℕ) → is_open p ≡ true → length held + length v ≤ 16384 → cell_of p (held ++ v) ≡ fold with_byte (cell_of p held) v
open_takes Missing held v e h = cc
open_takes (Open vr shown s) held v e h = sym (fits vr shown s held v h)
open_takes OpenTooLong held v e h = cc
open_takes (Whole shown) held v e h = cc
open_takes TooLong held v e h = cc
open_takes NotShown held v e h = cc

-- or is too long
pub open_passes : (p : Progress) (held v : List ℕ) → is_open p ≡ true → length held ≤ 16384 → 16384 < length held + length v → open_too_long ≡ fold with_byte (cell_of p held) v
open_passes Missing held v e h k = cc
open_passes (Open vr shown s) held v e h k = sym (passes vr shown s held v h k)
open_passes OpenTooLong held v e h k = cc
open_passes (Whole shown) held v e h k = cc
open_passes TooLong held v e h k = cc
open_passes NotShown held v e h k = cc

-- ---- the order of a value
