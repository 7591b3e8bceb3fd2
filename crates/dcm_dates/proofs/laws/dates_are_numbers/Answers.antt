use Rattle.std.proofs.Common.{refl}
use Rattle.dcm_dates.specs.Calendar.{days_before}
use Rattle.dcm_dates.proofs.Numbers.{next_number, number_within, date_by_number, number_is_of_date}
use Rattle.dcm_dates.proofs.laws.dates_are_numbers.Goals as goal

pub returns-clause-first : goal.returns-clause-first
unfolding days_before
returns-clause-first c = refl

pub returns-clause-next : goal.returns-clause-next
returns-clause-next c = next_number

pub returns-clause-within : goal.returns-clause-within
returns-clause-within c = number_within

pub returns-clause-one_day : goal.returns-clause-one_day
returns-clause-one_day c = λ date e. date_by_number date _ e refl

pub returns-clause-one_number : goal.returns-clause-one_number
returns-clause-one_number c = number_is_of_date
