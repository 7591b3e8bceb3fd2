-- The day that has a number.
use Rattle.std.specs.Prelude.{ℕ, zero, suc, ◌-◌, Bool, true, false, nat_le}
use Rattle.dcm_dates.specs.declared.date.Date.{Date}
use Rattle.dcm_dates.specs.Calendar.{days_of_year, days_of_month, day_number, is_date}

-- a day is counted on from the first day of a year, over so many years at most: the year in which it is, and which of
-- its days it is
unfoldable pub in_years : (years y day : ℕ) → ℕ × ℕ
in_years zero y day = (y, day)
in_years (suc k) y day = elim (nat_le day (days_of_year y))
    [ true ↦ (y, day) | false ↦ in_years k (suc y) (day - days_of_year y) ]

-- the same of the months of a year
unfoldable pub in_months : (months y m day : ℕ) → ℕ × ℕ
in_months zero y m day = (m, day)
in_months (suc k) y m day = elim (nat_le day (days_of_month y m))
    [ true ↦ (m, day) | false ↦ in_months k y (suc m) (day - days_of_month y m) ]

-- the day of a number
unfoldable pub date_of : ℕ → Date
date_of n =
    let in_year = in_years 9998 1 n in
    let in_month = in_months 11 in_year.0 1 in_year.1 in
    record { year = in_year.0; month = in_month.0; day = in_month.1 }

-- the number of a day
abbrev pub number_of : Date → ℕ
number_of date = day_number date.year date.month date.day

abbrev pub is_day : Date → Bool
is_day date = is_date date.year date.month date.day
