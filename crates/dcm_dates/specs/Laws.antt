-- The words of the laws.
use Rattle.std.specs.Prelude.{◌≡◌, ℕ, ℤ, pos, ◌+◌, ◌+ℤ◌, true, nat_lt, List, [], length, take, drop, ◌⊎◌, if◌then◌else◌}
use Rattle.std.specs.List.{AllZip}
use Rattle.dcm_dates.specs.declared.date.Date.{Date}
use Rattle.dcm_dates.specs.declared.moving.DateKind.{DateKind}
use Rattle.dcm_dates.specs.Calendar.{days_of_month}
use Rattle.dcm_dates.specs.Numbered.{number_of}
use Rattle.dcm_dates.specs.DateText.{shown, shows_day}
use Rattle.dcm_dates.specs.Moved.{may_follow, parts_of}

-- the day after a day
abbrev pub next_day : Date → Date
next_day date =
    if nat_lt date.day (days_of_month date.year date.month)
    then record { year = date.year; month = date.month; day = date.day + 1 }
    else if nat_lt date.month 12 then record { year = date.year; month = date.month + 1; day = 1 }
    else record { year = date.year + 1; month = 1; day = 1 }

-- the number of the day that a text of eight digits shows
abbrev pub number_shown : List ℕ → ℕ
number_shown text = number_of (shown text)

-- a date and what follows it became another date, so many days later, and the same after it
pub record IsLater (kind : DateKind) (days : ℤ) (part new : List ℕ) : Type 0 where
  pub shows : shows_day (take 8 part) ≡ true
  pub shows_new : shows_day (take 8 new) ≡ true
  pub later : pos (number_shown (take 8 new)) ≡ pos (number_shown (take 8 part)) +ℤ days
  pub rest : drop 8 new ≡ drop 8 part
  pub follows : may_follow kind (drop 8 part) ≡ true

-- nothing stays nothing
abbrev pub IsPartMoved : DateKind → (days : ℤ) → (part new : List ℕ) → Type 0
IsPartMoved kind days part new = ((part ≡ []) × (new ≡ [])) ⊎ IsLater kind days part new

-- as many parts, each moved, and as many bytes
pub record IsTextMoved (kind : DateKind) (days : ℤ) (text new : List ℕ) : Type 0 where
  pub size : length new ≡ length text
  pub parts : AllZip (IsPartMoved kind days) (parts_of text) (parts_of new)
