use Rattle.dcm_dates.proofs.Numbers.{number_is_of_date, date_from_day, day_along, number_along}
use Rattle.dcm_dates.proofs.date.Date.of_number.Goals as goal

pub returns-clause-value : goal.returns-clause-value
returns-clause-value c =
    let year = c.day_of_year-in_year.ensures in
    date_from_day _ _ _ _ c.day_of_month-in_month.ensures year.year year.last year.day year.within year.number

pub returns-clause-day : goal.returns-clause-day
returns-clause-day c =
    let year = c.day_of_year-in_year.ensures in
    let same = date_from_day _ _ _ _ c.day_of_month-in_month.ensures year.year year.last year.day year.within year.number in
    day_along _ _ same (number_is_of_date c.args.number c.requires.first c.requires.last).0

pub returns-clause-number : goal.returns-clause-number
returns-clause-number c =
    let year = c.day_of_year-in_year.ensures in
    let same = date_from_day _ _ _ _ c.day_of_month-in_month.ensures year.year year.last year.day year.within year.number in
    number_along _ _ _ same (number_is_of_date c.args.number c.requires.first c.requires.last).1
