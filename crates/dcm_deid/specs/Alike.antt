-- Data sets that differ only in what is taken out of them.
use Rattle.std.specs.Prelude.{◌≡◌, ℕ, ℤ, List, []}
use Rattle.dcm_base.specs.declared.vr.Vr.{Vr}
use Rattle.dcm_base.specs.Tree.Tree.{Trees}
use Rattle.dcm_base.specs.Tables.Transfer.{without_pads}
use Rattle.dcm_deid.specs.declared.fate.Fate.{Fate}
use Rattle.dcm_deid.specs.declared.fate.Fate.TheVariants.{Remove, Empty, Replace, Anew, Keep}
use Rattle.dcm_deid.specs.declared.fate.Options.{Options}
use Rattle.dcm_deid.specs.declared.fate.Temporal.{Temporal}
use Rattle.dcm_deid.specs.declared.fate.Temporal.TheVariants.{Removed, Full, Modified}
use Rattle.dcm_deid.specs.declared.fate.Depth.{Depth}
use Rattle.dcm_deid.specs.Fate.{fate_as}
use Rattle.dcm_deid.specs.Deidentify.{Renaming, by_fate}
use Rattle.dcm_deid.specs.Emptied.{emptied}
use Rattle.dcm_deid.specs.MadeNew.{left_of}

-- what is asked of a value: nothing of one that is taken, of one that is made anew what has an influence
abbrev pub value_left : Renaming → Fate → Vr → List ℕ → List ℕ
value_left left Remove vr value = []
value_left left Empty vr value = []
value_left left Replace vr value = []
value_left left (Anew made) vr value = left made (without_pads value)
value_left left Keep vr value = value

-- a data set from which all was struck that is taken out of it
abbrev pub struck : Options → Depth → Trees → Trees
struck options depth set = by_fate (fate_as options) (value_left (left_of options)) depth set

-- the options with another number of days, where dates are moved
abbrev pub moved_by : (days : ℤ) → Temporal → Temporal
moved_by days Removed = Removed
moved_by days Full = Full
moved_by days (Modified other) = Modified days

abbrev pub moving : Options → (days : ℤ) → Options
moving options days = record options { dates = moved_by days options.dates }

-- how many dates have nothing left
abbrev pub vanished : Options → Depth → Trees → ℕ
vanished options depth set = emptied (fate_as options) (left_of options) depth set

-- two data sets differ only in what is taken, where the dates of one are moved by d days, and of the other by e; and as
-- many dates of both have nothing left, which is told
pub record Alike (options : Options) (depth : Depth) (d e : ℤ) (f g : Trees) : Type 0 where
  pub same_left : struck (moving options d) depth f ≡ struck (moving options e) depth g
  pub same_vanished : vanished (moving options d) depth f ≡ vanished (moving options e) depth g
