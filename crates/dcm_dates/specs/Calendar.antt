-- The Gregorian calendar, from 0001-01-01 to 9999-12-31 (PS3.5 6.2, DA).
use Rattle.std.specs.Prelude.{ℕ, zero, suc, ◌+◌, ◌-◌, ◌*◌, ◌/◌, ◌%◌, Bool, ◌&&◌, ◌||◌, not, ◌==◌, nat_le, if◌then◌else◌}

-- every fourth year is a leap year, of full centuries every fourth
abbrev pub is_leap : ℕ → Bool
is_leap y = (y % 4 == 0) && (not (y % 100 == 0) || (y % 400 == 0))

abbrev pub days_of_year : ℕ → ℕ
days_of_year y = if is_leap y then 366 else 365

-- April, June, September and November have 30 days
abbrev pub days_of_month : (y m : ℕ) → ℕ
days_of_month y m = if m == 2 then (if is_leap y then 29 else 28)
    else if (m == 4) || (m == 6) || (m == 9) || (m == 11) then 30 else 31

abbrev pub is_between : (least most n : ℕ) → Bool
is_between least most n = nat_le least n && nat_le n most

-- there is such a day
abbrev pub is_date : (y m d : ℕ) → Bool
is_date y m d = is_between 1 9999 y && (is_between 1 12 m && is_between 1 (days_of_month y m) d)

-- the days of the years before one
unfoldable pub days_before : ℕ → ℕ
days_before y = 365 * (y - 1) + (y - 1) / 4 - (y - 1) / 100 + (y - 1) / 400

-- the days of the first months of a year
abbrev pub days_of_months : (y months : ℕ) → ℕ
days_of_months y zero = 0
days_of_months y (suc k) = days_of_months y k + days_of_month y (suc k)

-- the number of a day: 0001-01-01 has 1
abbrev pub day_number : (y m d : ℕ) → ℕ
day_number y m d = days_before y + days_of_months y (m - 1) + d

-- 9999-12-31
abbrev pub LAST_NUMBER : ℕ
LAST_NUMBER = 3652059
