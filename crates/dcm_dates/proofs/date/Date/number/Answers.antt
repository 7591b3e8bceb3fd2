use Rattle.std.proofs.Common.{arith}
use Rattle.dcm_dates.proofs.Numbers.{number_within}
use Rattle.dcm_dates.proofs.date.Date.number.Goals as goal

pub overflow_add-result : goal.overflow_add-result
overflow_add-result c =
    let most = number_within c.args.self.now c.requires in
    omega (arith, most, c.days_before.ensures, c.days_before_month.ensures)

pub overflow_add-result-2 : goal.overflow_add-result-2
overflow_add-result-2 c =
    let most = number_within c.args.self.now c.requires in
    omega (arith, most, c.days_before.ensures, c.days_before_month.ensures)

pub returns-clause-within : goal.returns-clause-within
returns-clause-within c =
    let most = number_within c.args.self.now c.requires in
    omega (arith, most, c.days_before.ensures, c.days_before_month.ensures)
