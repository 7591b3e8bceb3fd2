-- Dates as text (PS3.5 6.2, DA and DT).
use Rattle.std.specs.Prelude.{ℕ, ◌+◌, ◌-◌, ◌*◌, ◌/◌, ◌%◌, Bool, true, false, ◌&&◌, ◌||◌, not, ◌==◌, nat_le, List, [], ◌∷◌}
use Rattle.std.specs.Prelude.{length, drop, slice_index, Option, Some, None, if◌then◌else◌}
use Rattle.std.specs.List.{list_all, position_or_len}
use Rattle.dcm_dates.specs.declared.date.Date.{Date}
use Rattle.dcm_dates.specs.Calendar.{is_between}
use Rattle.dcm_dates.specs.Numbered.{is_day}

abbrev pub is_digit : ℕ → Bool
is_digit b = is_between 48 57 b

-- the number that the digit at a place shows
abbrev pub digit_at : List ℕ → ℕ → ℕ
digit_at text i = slice_index text i - 48

-- the day that YYYYMMDD shows
unfoldable pub shown : List ℕ → Date
shown text = record {
  year = 1000 * digit_at text 0 + 100 * digit_at text 1 + 10 * digit_at text 2 + digit_at text 3;
  month = 10 * digit_at text 4 + digit_at text 5;
  day = 10 * digit_at text 6 + digit_at text 7;
}

-- eight digits that show a day
abbrev pub shows_day : List ℕ → Bool
shows_day text = (length text == 8) && (list_all is_digit text && is_day (shown text))

-- a day as YYYYMMDD
unfoldable pub digits_of : Date → List ℕ
digits_of date =
    (48 + date.year / 1000) ∷ (48 + date.year / 100 % 10) ∷ (48 + date.year / 10 % 10) ∷ (48 + date.year % 10)
    ∷ (48 + date.month / 10) ∷ (48 + date.month % 10) ∷ (48 + date.day / 10) ∷ (48 + date.day % 10) ∷ []

-- ---- what may follow the date of a DT

-- two digits of a number up to a bound
abbrev pub is_pair : (most high low : ℕ) → Bool
is_pair most high low = is_digit high && (is_digit low && nat_le (10 * (high - 48) + (low - 48)) most)

-- what comes after two such digits
abbrev pub after_pair : (most : ℕ) → List ℕ → Option (List ℕ)
after_pair most [] = None
after_pair most (high ∷ []) = None
after_pair most (high ∷ low ∷ rest) = if is_pair most high low then Some rest else None

abbrev pub passes : (List ℕ → Bool) → Option (List ℕ) → Bool
passes test None = false
passes test (Some text) = test text

abbrev pub is_nothing : List ℕ → Bool
is_nothing text = length text == 0

-- minutes from UTC, and nothing after them
abbrev pub is_zone_minutes : List ℕ → Bool
is_zone_minutes text = passes is_nothing (after_pair 59 text)

-- perhaps the distance from UTC: a sign, hours and minutes
abbrev pub is_zone : List ℕ → Bool
is_zone [] = true
is_zone (sign ∷ rest) = ((sign == 43) || (sign == 45)) && passes is_zone_minutes (after_pair 14 rest)

-- how many digits a text begins with
abbrev pub digits_before : List ℕ → ℕ
digits_before text = position_or_len (λ b. not (is_digit b)) text

-- one to six digits of a second, and perhaps the distance from UTC
abbrev pub is_fraction : List ℕ → Bool
is_fraction text = is_between 1 6 (digits_before text) && is_zone (drop (digits_before text) text)

abbrev pub is_point_and_fraction : List ℕ → Bool
is_point_and_fraction [] = false
is_point_and_fraction (point ∷ rest) = (point == 46) && is_fraction rest

abbrev pub is_after_seconds : List ℕ → Bool
is_after_seconds text = is_zone text || is_point_and_fraction text

abbrev pub is_after_minutes : List ℕ → Bool
is_after_minutes text = is_zone text || passes is_after_seconds (after_pair 60 text)

abbrev pub is_after_hours : List ℕ → Bool
is_after_hours text = is_zone text || passes is_after_minutes (after_pair 59 text)

-- perhaps HH, HHMM, HHMMSS or HHMMSS.F, and then perhaps the distance from UTC
abbrev pub is_rest : List ℕ → Bool
is_rest text = is_zone text || passes is_after_hours (after_pair 23 text)
