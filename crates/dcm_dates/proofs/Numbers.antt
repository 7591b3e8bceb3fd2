-- Days and their numbers.
use Rattle.std.proofs.Common.{◌≡◌, ◌<◌, ◌≤◌, inl, inr, ℕ, zero, suc, ◌+◌, ◌-◌, true, refl, arith, ap, ◌∙◌}
use Rattle.std.specs.Prelude.{◌&&◌, nat_le}
use Rattle.std.proofs.lemmas.Bool.{cases_lt, lt-ltb, le-ltb, and_parts, leb-true, le-leb}
use Rattle.dcm_dates.specs.declared.date.Date.{Date}
use Rattle.dcm_dates.specs.Calendar.{is_between, is_date, days_of_year, days_of_month, days_of_months, days_before, day_number}
use Rattle.dcm_dates.specs.Numbered.{in_years, in_months, date_of, is_day, number_of}
use Rattle.dcm_dates.specs.Laws.{next_day}
use Rattle.dcm_dates.proofs.Years.{counted_years, counted_months, first_before, last_before, months_of_year, later_before, later_months, next_before, years_end, months_end, year_here, year_passed, month_here, month_passed}

-- what the test of a day says
pub record IsDate (y m d : ℕ) : Type 0 where
  pub first_year : 1 ≤ y
  pub last_year : y ≤ 9999
  pub first_month : 1 ≤ m
  pub last_month : m ≤ 12
  pub first_day : 1 ≤ d
  pub last_day : d ≤ days_of_month y m

pub between : (least most n : ℕ) → is_between least most n ≡ true → (least ≤ n) × (n ≤ most)
between least most n e = let parts = and_parts (nat_le least n) (nat_le n most) e in
    (leb-true least n parts.0, leb-true n most parts.1)

pub within : (least most n : ℕ) → least ≤ n → n ≤ most → is_between least most n ≡ true
within least most n low high = rw (le-leb least n low, le-leb n most high) refl

pub date_is : (y m d : ℕ) → is_date y m d ≡ true → IsDate y m d
date_is y m d e =
    let parts = and_parts (is_between 1 9999 y) (is_between 1 12 m && is_between 1 (days_of_month y m) d) e in
    let others = and_parts (is_between 1 12 m) (is_between 1 (days_of_month y m) d) parts.1 in
    let year = between 1 9999 y parts.0 in
    let month = between 1 12 m others.0 in
    let day = between 1 (days_of_month y m) d others.1 in
    record {
      first_year = year.0;
      last_year = year.1;
      first_month = month.0;
      last_month = month.1;
      first_day = day.0;
      last_day = day.1;
    }

pub is_a_date : (y m d : ℕ) → IsDate y m d → is_date y m d ≡ true
is_a_date y m d h = rw (within 1 9999 y h.first_year h.last_year, within 1 12 m h.first_month h.last_month, within 1 (days_of_month y m) d h.first_day h.last_day) refl

-- the days of a year up to one of them are within the year
in_year : (y m d : ℕ) → m < 12 → d ≤ days_of_month y (suc m) → days_of_months y m + d ≤ days_of_year y
in_year y m d low le =
    let later = later_months (11 - m) y (suc m) 12 (omega arith) in
    let all = months_of_year y in
    omega arith

-- the number of a day gives the day
date_at : (y k d n : ℕ) → IsDate y (suc k) d → n ≡ days_before y + (days_of_months y k + d)
    → date_of n ≡ record { year = y; month = suc k; day = d }
unfolding date_of
date_at y k d n h e =
    let day = days_of_months y k + d in
    let within = in_year y k d (omega (arith, h.last_month)) h.last_day in
    let first = first_before in
    let years : in_years 9998 1 n ≡ (y, day) =
    counted_years 9998 1 n y day h.first_year (omega (arith, h.last_year)) (omega arith) (omega (arith, h.first_day)) within (omega (arith, first)) in
    let months : in_months 11 y 1 day ≡ (suc k, d) =
    counted_months 11 y 0 day k d (omega arith) (omega (arith, h.last_month)) (omega (arith, h.first_day)) h.last_day (omega arith) in
    rw (years, months) refl

pub date_of_number : (y m d : ℕ) → is_date y m d ≡ true → date_of (day_number y m d) ≡ record { year = y; month = m; day = d }
date_of_number y zero d e = let h = date_is y zero d e in absurd (omega (arith, h.first_month))
date_of_number y (suc k) d e =
    let same : suc k - 1 ≡ k = omega arith in
    date_at y k d (day_number y (suc k) d) (date_is y (suc k) d e) (omega (arith, ap (days_of_months y) same))

-- ---- each number is that of a day

record FoundYear (years y n : ℕ) (found : ℕ × ℕ) : Type 0 where
  first : y ≤ found.0
  last : found.0 ≤ y + years
  some : 1 ≤ found.1
  within : found.1 ≤ days_of_year found.0
  number : days_before found.0 + found.1 ≡ days_before y + n

found_year : (years y n : ℕ) → 0 < y → 0 < n → days_before y + n ≤ days_before (suc (y + years))
    → FoundYear years y n (in_years years y n)
found_year zero y n low some most =
    let same : suc (y + 0) ≡ suc y = omega arith in
    let step = next_before y low in
    rw (years_end y n) (record { first = omega arith; last = omega arith; some = some; within = omega (arith, ap days_before same); number = refl })
found_year (suc k) y n low some most = elim (cases_lt (days_of_year y) n) [
  | inl less ↦
      let step = next_before y low in
      let same : suc (suc y + k) ≡ suc (y + suc k) = omega arith in
      let found = found_year k (suc y) (n - days_of_year y) (omega arith) (omega arith) (omega (arith, ap days_before same)) in
      rw (year_passed k y n less) (record {
        first = omega (arith, found.first);
        last = omega (arith, found.last);
        some = found.some;
        within = found.within;
        number = omega (arith, found.number);
      })
  | inr here ↦ rw (year_here k y n here) (record { first = omega arith; last = omega arith; some = some; within = here; number = refl })
]

record FoundMonth (months y m n : ℕ) (found : ℕ × ℕ) : Type 0 where
  first : 1 ≤ found.0
  last : found.0 ≤ suc (m + months)
  some : 1 ≤ found.1
  within : found.1 ≤ days_of_month y found.0
  number : days_of_months y (found.0 - 1) + found.1 ≡ days_of_months y m + n

found_month : (months y m n : ℕ) → 0 < n → days_of_months y m + n ≤ days_of_months y (suc (m + months))
    → FoundMonth months y m n (in_months months y (suc m) n)
found_month zero y m n some most =
    let same : suc (m + 0) ≡ suc m = omega arith in
    let less : suc m - 1 ≡ m = omega arith in
    rw (months_end y (suc m) n) (record { first = omega arith; last = omega arith; some = some; within = omega (arith, ap (days_of_months y) same); number = rw less refl })
found_month (suc k) y m n some most = elim (cases_lt (days_of_month y (suc m)) n) [
  | inl less ↦
      let same : suc (suc m + k) ≡ suc (m + suc k) = omega arith in
      let found = found_month k y (suc m) (n - days_of_month y (suc m)) (omega arith) (omega (arith, ap (days_of_months y) same)) in
      rw (month_passed k y (suc m) n less) (record {
        first = found.first;
        last = omega (arith, found.last);
        some = found.some;
        within = found.within;
        number = omega (arith, found.number);
      })
  | inr here ↦
      let same : suc m - 1 ≡ m = omega arith in
      rw (month_here k y (suc m) n here) (record { first = omega arith; last = omega arith; some = some; within = here; number = rw same refl })
]

pub number_is_of_date : (n : ℕ) → 1 ≤ n → n ≤ 3652059 → (is_day (date_of n) ≡ true) × (number_of (date_of n) ≡ n)
unfolding date_of
number_is_of_date n low high =
    let first = first_before in
    let last : days_before (suc (1 + 9998)) ≡ 3652059 = next_before 9999 (omega arith) ∙ last_before in
    let y = found_year 9998 1 n (omega arith) low (omega (arith, last, first)) in
    let year = (in_years 9998 1 n).0 in
    let day = (in_years 9998 1 n).1 in
    let all = months_of_year year in
    let m = found_month 11 year 0 day y.some (omega (arith, y.within, all)) in (
      is_a_date _ _ _ (record {
        first_year = y.first;
        last_year = omega (arith, y.last);
        first_month = m.first;
        last_month = m.last;
        first_day = m.some;
        last_day = m.within;
      }),
      omega (arith, y.number, m.number, first),
    )

-- a day that has the number is the one
pub date_by_number : (date : Date) (n : ℕ) → is_day date ≡ true → number_of date ≡ n → date_of n ≡ date
date_by_number date n day number = rw (← number) (date_of_number date.year date.month date.day day)

pub number_within : (date : Date) → is_day date ≡ true → (1 ≤ number_of date) × (number_of date ≤ 3652059)
number_within date e = within_calendar date.year date.month date.day (date_is date.year date.month date.day e)
  where
    within_calendar : (y m d : ℕ) → IsDate y m d → (1 ≤ day_number y m d) × (day_number y m d ≤ 3652059)
    within_calendar y zero d h = absurd (omega (arith, h.first_month))
    within_calendar y (suc k) d h =
        let same : suc k - 1 ≡ k = omega arith in
        let day = in_year y k d (omega (arith, h.last_month)) h.last_day in
        let step = next_before y h.first_year in
        let later = later_before (9999 - y) (suc y) (suc 9999) (omega arith) (omega (arith, h.last_year)) in
        let last = next_before 9999 (omega arith) ∙ last_before in
        (omega (arith, h.first_day), omega (arith, ap (days_of_months y) same))

-- the day of a number is that of the year and the day of the year that have it
pub date_from_day : (y day n : ℕ) (in_month : ℕ × ℕ) → in_month ≡ in_months 11 y 1 day → 1 ≤ y → y ≤ 9999 → 1 ≤ day
    → day ≤ days_of_year y → days_before y + day ≡ n
    → record { year = y; month = in_month.0; day = in_month.1 } ≡ date_of n
unfolding date_of
date_from_day y day n in_month same low high some most e =
    let first = first_before in
    let years : in_years 9998 1 n ≡ (y, day) = counted_years 9998 1 n y day low (omega (arith, high)) (omega arith) some most (omega (arith, first)) in
    rw (years, ← same) refl

pub day_along : (date other : Date) → date ≡ other → is_day other ≡ true → is_day date ≡ true
day_along date other e h = rw e h

pub number_along : (date other : Date) (n : ℕ) → date ≡ other → number_of other ≡ n → number_of date ≡ n
number_along date other n e h = rw e h

-- ---- the next day

first_of_month : (y k : ℕ) → day_number y (suc k + 1) 1 ≡ day_number y (suc k) (days_of_month y (suc k)) + 1
first_of_month y k =
    let this : suc k - 1 ≡ k = omega arith in
    let next : suc k + 1 - 1 ≡ suc k = omega arith in
    omega (arith, ap (days_of_months y) this, ap (days_of_months y) next)

first_of_year : (y : ℕ) → 1 ≤ y → day_number (y + 1) 1 1 ≡ day_number y 12 (days_of_month y 12) + 1
first_of_year y low =
    let step = next_before y low in
    let all = months_of_year y in
    let next : y + 1 ≡ suc y = omega arith in
    omega (arith, ap days_before next)

pub next_number : (date : Date) → is_day date ≡ true → number_of (next_day date) ≡ number_of date + 1
next_number date e = next_of date.year date.month date.day (date_is date.year date.month date.day e)
  where
    next_of : (y m d : ℕ) → IsDate y m d → number_of (next_day (record { year = y; month = m; day = d })) ≡ day_number y m d + 1
    next_of y zero d h = absurd (omega (arith, h.first_month))
    next_of y (suc k) d h = elim (cases_lt d (days_of_month y (suc k))) [
      | inl within ↦ rw (lt-ltb d (days_of_month y (suc k)) within) (omega arith)
      | inr last ↦ rw (le-ltb d (days_of_month y (suc k)) last) (elim (cases_lt (suc k) 12) [
        | inl month ↦ rw (lt-ltb (suc k) 12 month) (omega (arith, first_of_month y k, h.last_day))
        | inr december ↦
            let twelve : suc k ≡ 12 = omega (arith, h.last_month) in
            rw (le-ltb (suc k) 12 december) (omega (arith, first_of_year y h.first_year, h.last_day, ap (λ (m : ℕ). days_of_month y m) twelve, ap (λ (m : ℕ). days_of_months y (m - 1)) twelve))
      ])
    ]
