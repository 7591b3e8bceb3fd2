-- Days, and texts whose dates are moved, worked out. The days between dates were counted with another calendar.
use Rattle.std.specs.Prelude.{◌≡◌, pos, negsuc, true, false, [], ◌++◌, replicate, codes, refl}
use Rattle.dcm_dates.specs.declared.moving.DateKind.TheVariants.{Da, Dt}
use Rattle.dcm_dates.specs.Calendar.{is_leap, is_date, days_before, day_number}
use Rattle.dcm_dates.specs.Numbered.{in_years, in_months, date_of}
use Rattle.dcm_dates.specs.DateText.{shown, digits_of}
use Rattle.dcm_dates.specs.Moved.{all_moved, moved}

-- ---- the calendar

leap_2024 : is_leap 2024 ≡ true
leap_2024 = refl

no_leap_2023 : is_leap 2023 ≡ false
no_leap_2023 = refl

no_leap_1900 : is_leap 1900 ≡ false
no_leap_1900 = refl

leap_2000 : is_leap 2000 ≡ true
leap_2000 = refl

no_leap_2100 : is_leap 2100 ≡ false
no_leap_2100 = refl

february_1900 : is_date 1900 2 29 ≡ false
february_1900 = refl

february_2000 : is_date 2000 2 29 ≡ true
february_2000 = refl

no_year_0 : is_date 0 12 31 ≡ false
no_year_0 = refl

no_year_10000 : is_date 10000 1 1 ≡ false
no_year_10000 = refl

no_month_13 : is_date 2024 13 1 ≡ false
no_month_13 = refl

april : is_date 2024 4 31 ≡ false
april = refl

last_number : day_number 9999 12 31 ≡ 3652059
unfolding days_before
last_number = refl

epoch : day_number 1970 1 1 ≡ 719163
unfolding days_before
epoch = refl

march_2000 : day_number 2000 3 1 ≡ 730180
unfolding days_before
march_2000 = refl

day_1 : date_of 1 ≡ record { year = 1; month = 1; day = 1 }
unfolding date_of in_years in_months
day_1 = refl

day_719163 : date_of 719163 ≡ record { year = 1970; month = 1; day = 1 }
unfolding date_of in_years in_months
day_719163 = refl

-- ---- texts

leap_forwards : moved Da (pos 365) (codes "20240229\\19990301\\20230228\\18990228") ≡ codes "20250228\\20000229\\20240228\\19000228"
unfolding moved all_moved shown digits_of date_of in_years in_months days_before
leap_forwards = refl

leap_backwards : moved Da (negsuc 0) (codes "20240301\\20230301\\19000301\\20000301\\20240101\\20240501")
    ≡ codes "20240229\\20230228\\19000228\\20000229\\20231231\\20240430"
unfolding moved all_moved shown digits_of date_of in_years in_months days_before
leap_backwards = refl

century : moved Da (negsuc 36523) (codes "20240102\\01010101") ≡ codes "19240103\\00010101"
unfolding moved all_moved shown digits_of date_of in_years in_months days_before
century = refl

before_the_first : moved Da (negsuc 0) (codes "00010103\\00010101") ≡ []
unfolding moved all_moved shown digits_of date_of in_years in_months days_before
before_the_first = refl

after_the_last : moved Da (pos 1) (codes "99991231") ≡ []
unfolding moved all_moved shown digits_of date_of in_years in_months days_before
after_the_last = refl

range : moved Da (pos 1) (codes "20240101-20240131") ≡ []
unfolding moved all_moved shown digits_of date_of in_years in_months days_before
range = refl

range_of_dt : moved Dt (pos 1) (codes "20240102-20240131") ≡ []
unfolding moved all_moved shown digits_of date_of in_years in_months days_before
range_of_dt = refl

no_day : moved Da (pos 1) (codes "20240131\\19000229") ≡ []
unfolding moved all_moved shown digits_of date_of in_years in_months days_before
no_day = refl

empty_parts : moved Da (pos 1) (codes "20240131\\\\20240131\\") ≡ codes "20240201\\\\20240201\\"
unfolding moved all_moved shown digits_of date_of in_years in_months days_before
empty_parts = refl

rests : moved Dt (pos 1) (codes "20231231\\2023123123\\20231231235960\\20231231000000.123456\\20231231-1400\\20231231120000.1-0330")
    ≡ codes "20240101\\2024010123\\20240101235960\\20240101000000.123456\\20240101-1400\\20240101120000.1-0330"
unfolding moved all_moved shown digits_of date_of in_years in_months days_before
rests = refl

no_seven_digits : moved Dt (pos 1) (codes "20231231120000.1234567") ≡ []
unfolding moved all_moved shown digits_of date_of in_years in_months days_before
no_seven_digits = refl

no_zone_15 : moved Dt (pos 1) (codes "20231231+1500") ≡ []
unfolding moved all_moved shown digits_of date_of in_years in_months days_before
no_zone_15 = refl

held : moved Dt (pos 1) (replicate 248 92 ++ codes "20231231") ≡ replicate 248 92 ++ codes "20240101"
unfolding moved all_moved shown digits_of date_of in_years in_months days_before
held = refl

too_long : moved Dt (pos 1) (replicate 249 92 ++ codes "20231231") ≡ []
unfolding moved all_moved shown digits_of date_of in_years in_months days_before
too_long = refl
