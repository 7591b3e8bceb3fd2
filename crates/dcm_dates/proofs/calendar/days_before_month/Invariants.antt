use Rattle.std.proofs.Common.{◌≡◌, ◌≤◌, ◌*◌, ◌-◌}
use Rattle.dcm_dates.specs.Calendar.{days_of_months}
use Rattle.dcm_dates.proofs.calendar.days_before_month.Given as goal

-- those of the months so far
abbrev pub invariant-loop-earlier : goal.invariant-loop-earlier
invariant-loop-earlier l = record { days : l.days ≡ days_of_months l.year (l.earlier - 1); some : l.days ≤ 31 * l.earlier }
