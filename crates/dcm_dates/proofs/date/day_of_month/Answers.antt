use Rattle.std.proofs.Common.{◌≡◌, ◌+◌, ◌-◌, ℕ, suc, ◌∙◌, sym, ap, arith}
use Rattle.dcm_dates.specs.Numbered.{in_months}
use Rattle.dcm_dates.specs.Calendar.{days_of_month}
use Rattle.dcm_dates.proofs.Years.{month_here, month_passed, months_end}
use Rattle.dcm_dates.proofs.date.day_of_month.Goals as goal

pub returns-then-day-days : goal.returns-then-day-days
returns-then-day-days c =
    let j = 11 - c.loop-month.month in
    let left : 12 - c.loop-month.month ≡ suc j = omega arith in
    sym (month_here j c.args.year c.loop-month.month c.loop-month.day (omega (arith, c.days_of_month-days.ensures.days)))
    ∙ ap (λ (k : ℕ). in_months k c.args.year c.loop-month.month c.loop-month.day) (sym left)
    ∙ c.loop-month.invariant

pub loop-month-preserved : goal.loop-month-preserved
loop-month-preserved c =
    let j = 12 - (c.loop-month.month + 1) in
    let left : suc j ≡ 12 - c.loop-month.month = omega arith in
    let next : c.loop-month.month + 1 ≡ suc c.loop-month.month = omega arith in
    let day : c.loop-month.day - c.days_of_month-days.result ≡ c.loop-month.day - days_of_month c.args.year c.loop-month.month = ap (λ (d : ℕ). c.loop-month.day - d) c.days_of_month-days.ensures.days in
    ap (λ (m : ℕ). in_months j c.args.year m (c.loop-month.day - c.days_of_month-days.result)) next
    ∙ ap (λ (d : ℕ). in_months j c.args.year (suc c.loop-month.month) d) day
    ∙ sym (month_passed j c.args.year c.loop-month.month c.loop-month.day (omega (arith, c.days_of_month-days.ensures.days)))
    ∙ ap (λ (k : ℕ). in_months k c.args.year c.loop-month.month c.loop-month.day) left
    ∙ c.loop-month.invariant

pub returns : goal.returns
returns c =
    let month : c.loop-month.month ≡ 12 = omega arith in
    let left : 12 - c.loop-month.month ≡ 0 = omega arith in
    sym (months_end c.args.year 12 c.loop-month.day)
    ∙ ap (λ (m : ℕ). in_months 0 c.args.year m c.loop-month.day) (sym month)
    ∙ ap (λ (k : ℕ). in_months k c.args.year c.loop-month.month c.loop-month.day) (sym left)
    ∙ c.loop-month.invariant
