use Rattle.std.proofs.Common.{◌-◌, ◌/◌, ◌%◌, ◌*◌, arith}
use Rattle.dcm_dates.proofs.Years.{cycles_before}
use Rattle.dcm_dates.proofs.calendar.day_of_year.Goals as goal

pub returns-clause-number : goal.returns-clause-number
returns-clause-number c =
    let past = c.args.number - 1 in
    let centuries = c.min-centuries.result in
    let in_fours = past % 146097 - centuries * 36524 in
    let years = c.min-years.result in
    let before = cycles_before (past / 146097) centuries (in_fours / 1461) years (omega (arith, c.min-centuries.ensures)) (omega (arith, c.min-centuries.ensures)) (omega (arith, c.min-years.ensures)) in
    omega (arith, before, c.min-centuries.ensures, c.min-years.ensures)
