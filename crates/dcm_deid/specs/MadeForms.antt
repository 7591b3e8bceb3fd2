-- The forms of values that are made anew.
use Rattle.std.specs.Prelude.{◌≡◌, ℕ, true, List, [], take, drop, ◌⊎◌}
use Rattle.std.specs.List.{AllByRecursion}
use Rattle.dcm_base.specs.declared.vr.Vr.{Vr}
use Rattle.dcm_base.specs.declared.vr.Vr.TheVariants.{DA, DT}
use Rattle.dcm_dates.specs.declared.moving.DateKind.{DateKind}
use Rattle.dcm_dates.specs.declared.moving.DateKind.TheVariants.{Da, Dt}
use Rattle.dcm_dates.specs.DateText.{shows_day}
use Rattle.dcm_dates.specs.Moved.{may_follow, parts_of}
use Rattle.dcm_uid.specs.Pseudonym.{IsPseudonym}
use Rattle.dcm_uid.specs.Uid.{IsNewUid, is_standard}
use Rattle.dcm_deid.specs.declared.fate.NewValue.{NewValue}
use Rattle.dcm_deid.specs.declared.fate.NewValue.TheVariants.{Uid, Pseudonym, MovedDate, MovedDateTime}

-- nothing, or a date and what may follow it
abbrev pub IsDated : DateKind → List ℕ → Type 0
IsDated kind part = (part ≡ []) ⊎ ((shows_day (take 8 part) ≡ true) × (may_follow kind (drop 8 part) ≡ true))

abbrev pub AreDated : DateKind → List ℕ → Type 0
AreDated kind text = AllByRecursion (IsDated kind) (parts_of text)

-- what is made of a value is empty, or one of the standard's own identifiers, a new one, a pseudonym, or dates
abbrev pub HasForm : NewValue → List ℕ → Type 0
HasForm Uid value = (value ≡ []) ⊎ ((is_standard value ≡ true) ⊎ IsNewUid value)
HasForm Pseudonym value = (value ≡ []) ⊎ IsPseudonym value
HasForm MovedDate value = (value ≡ []) ⊎ AreDated Da value
HasForm MovedDateTime value = (value ≡ []) ⊎ AreDated Dt value

-- a representation of dates
abbrev pub IsDateVr : Vr → Type 0
IsDateVr vr = (vr ≡ DA) ⊎ (vr ≡ DT)
