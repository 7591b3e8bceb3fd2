use Rattle.std.proofs.Common.{◌≡◌, ◌-◌}
use Rattle.dcm_dates.specs.Numbered.{in_months}
use Rattle.dcm_dates.proofs.date.day_of_month.Given as goal

-- counting on from here comes to the same month and day
abbrev pub invariant-loop-month : goal.invariant-loop-month
invariant-loop-month l = in_months (12 - l.month) l.year l.month l.day ≡ in_months 11 l.year 1 l.initial.day
