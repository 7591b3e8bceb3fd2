-- The days of the years before one, and the years in which days are.
use Rattle.std.proofs.Common.{◌≡◌, ◌<◌, ◌≤◌, inl, inr, ℕ, zero, suc, ◌+◌, ◌-◌, ◌*◌, ◌/◌, Bool, true, false, refl, arith, ap, ◌∙◌}
use Rattle.std.specs.Prelude.{nat_le, if◌then◌else◌}
use Rattle.std.proofs.lemmas.Bool.{cases_lt}
use Rattle.std.proofs.lemmas.Bool.Decides.{nat_tests}
use Rattle.dcm_dates.specs.Calendar.{is_leap, days_of_year, days_of_month, days_of_months, days_before}
use Rattle.dcm_dates.specs.Numbered.{in_years, in_months}

pub next_before : (y : ℕ) → 0 < y → days_before (suc y) ≡ days_before y + days_of_year y
unfolding days_before
next_before y low = grind (arith, nat_tests)

pub first_before : days_before 1 ≡ 0
unfolding days_before
first_before = refl

pub last_before : days_before 9999 + 365 ≡ 3652059
unfolding days_before
last_before = refl

-- later years have more days before them
pub later_before : (k y z : ℕ) → 0 < y → z ≡ y + k → days_before y ≤ days_before z
later_before zero y z low e = let same : z ≡ y = omega arith in rw same (omega arith)
later_before (suc k) y (suc z) low e =
    let more = later_before k y z low (omega arith) in let step = next_before z (omega arith) in omega arith
later_before (suc k) y zero low e = absurd (omega arith)

pub years_end : (y n : ℕ) → in_years zero y n ≡ (y, n)
unfolding in_years
years_end y n = refl

pub year_here : (j y n : ℕ) → n ≤ days_of_year y → in_years (suc j) y n ≡ (y, n)
unfolding in_years
year_here j y n le = let e : nat_le n (days_of_year y) ≡ true = grind (arith, nat_tests) in rw (e, in_years) refl

pub year_passed : (j y n : ℕ) → days_of_year y < n → in_years (suc j) y n ≡ in_years j (suc y) (n - days_of_year y)
unfolding in_years
year_passed j y n lt = let e : nat_le n (days_of_year y) ≡ false = grind (arith, nat_tests) in rw (e, in_years) refl

-- counting on from the first day of a year comes to the year in which a day is
pub counted_years : (years y n year day : ℕ) → y ≤ year → year ≤ y + years → 0 < y → 0 < day
    → day ≤ days_of_year year → days_before y + n ≡ days_before year + day → in_years years y n ≡ (year, day)
counted_years zero y n year day from to low some most e =
    let same : year ≡ y = omega arith in
    let number : n ≡ day = omega (arith, ap days_before same) in
    rw (same, ← number) (years_end y n)
counted_years (suc j) y n year day from to low some most e = elim (cases_lt y year) [
  | inl less ↦
      let later = later_before (year - suc y) (suc y) year (omega arith) (omega arith) in
      let step = next_before y low in
      year_passed j y n (omega arith)
      ∙ counted_years j (suc y) (n - days_of_year y) year day (omega arith) (omega arith) (omega arith) some most (omega arith)
  | inr ge ↦
      let same : year ≡ y = omega arith in
      let number : n ≡ day = omega (arith, ap days_before same) in
      let most' : n ≤ days_of_year y = rw (number, ← same) most in
      rw (same, ← number) (year_here j y n most')
]

-- ---- months

pub months_end : (y m n : ℕ) → in_months zero y m n ≡ (m, n)
unfolding in_months
months_end y m n = refl

pub month_here : (j y m n : ℕ) → n ≤ days_of_month y m → in_months (suc j) y m n ≡ (m, n)
unfolding in_months
month_here j y m n le = let e : nat_le n (days_of_month y m) ≡ true = grind (arith, nat_tests) in rw (e, in_months) refl

pub month_passed : (j y m n : ℕ) → days_of_month y m < n
    → in_months (suc j) y m n ≡ in_months j y (suc m) (n - days_of_month y m)
unfolding in_months
month_passed j y m n lt =
    let e : nat_le n (days_of_month y m) ≡ false = grind (arith, nat_tests) in rw (e, in_months) refl

-- later months have more days before them
pub later_months : (k y m l : ℕ) → l ≡ m + k → days_of_months y m ≤ days_of_months y l
later_months zero y m l e = let same : l ≡ m = omega arith in rw same (omega arith)
later_months (suc k) y m (suc l) e = let more = later_months k y m l (omega arith) in omega arith
later_months (suc k) y m zero e = absurd (omega arith)

-- counting on from the first day of a month comes to the month in which a day is
pub counted_months : (months y m n month day : ℕ) → m ≤ month → month ≤ m + months → 0 < day
    → day ≤ days_of_month y (suc month) → days_of_months y m + n ≡ days_of_months y month + day
    → in_months months y (suc m) n ≡ (suc month, day)
counted_months zero y m n month day from to some most e =
    let same : month ≡ m = omega arith in
    let number : n ≡ day = omega (arith, ap (days_of_months y) same) in
    rw (same, ← number) (months_end y (suc m) n)
counted_months (suc j) y m n month day from to some most e = elim (cases_lt m month) [
  | inl less ↦
      let later = later_months (month - suc m) y (suc m) month (omega arith) in
      month_passed j y (suc m) n (omega arith)
      ∙ counted_months j y (suc m) (n - days_of_month y (suc m)) month day (omega arith) (omega arith) some most (omega arith)
  | inr ge ↦
      let same : month ≡ m = omega arith in
      let number : n ≡ day = omega (arith, ap (days_of_months y) same) in
      let most' : n ≤ days_of_month y (suc m) = rw (number, ← same) most in
      rw (same, ← number) (month_here j y (suc m) n most')
]

-- a year has as many days as its months
pub months_of_year : (y : ℕ) → days_of_months y 12 ≡ days_of_year y
months_of_year y = by_leap (is_leap y)
  where
    by_leap : (leap : Bool) → 31 + (if leap then 29 else 28) + 31 + 30 + 31 + 30 + 31 + 31 + 30 + 31 + 30 + 31 ≡ (if leap then 366 else 365)
    by_leap true = refl
    by_leap false = refl

-- ---- cycles

-- the days before a year, by whole cycles of 400, 100, 4 and 1 years
pub cycles_before : (a b c d : ℕ) → b ≤ 3 → c ≤ 24 → d ≤ 3
    → days_before (a * 400 + b * 100 + c * 4 + d + 1) ≡ a * 146097 + b * 36524 + c * 1461 + d * 365
unfolding days_before
cycles_before a b c d h i j =
    let past : a * 400 + b * 100 + c * 4 + d + 1 - 1 ≡ a * 400 + b * 100 + c * 4 + d = omega arith in
    let fours : (a * 400 + b * 100 + c * 4 + d) / 4 ≡ a * 100 + b * 25 + c = omega arith in
    let centuries : (a * 400 + b * 100 + c * 4 + d) / 100 ≡ a * 4 + b = omega arith in
    let four_centuries : (a * 400 + b * 100 + c * 4 + d) / 400 ≡ a = omega arith in
    rw (past, fours, centuries, four_centuries) (omega arith)
