use Rattle.std.proofs.Common.{◌∙◌, sym, ap, w32, ℤ}
use Rattle.std.proofs.lemmas.Int.{to_z-of_z}
use Rattle.dcm_dates.specs.Moved.{moved_number}
use Rattle.dcm_dates.proofs.Dates.{shows_none, moved_none, moved_some}
use Rattle.dcm_dates.proofs.moving.moved_date.Goals as goal

pub number-requires : goal.number-requires
number-requires c = c.in_ok-date.ensures.day

pub returns-in_err-date : goal.returns-in_err-date
returns-in_err-date c =
    c.from_residual.ensures ∙ sym (shows_none c.args.days c.args.text.now c.in_err-date.ensures.value)

-- the days that were passed are those that were given
pub returns-in_err-number : goal.returns-in_err-number
returns-in_err-number c =
    let days = to_z-of_z w32 c.args.days c.ranges.days in
    let none = c.in_err-number.ensures ∙ ap (λ (z : ℤ). moved_number z c.number.result) days in
    c.from_residual-in_err-number.ensures
    ∙ sym (moved_none c.args.days c.args.text.now c.in_ok-date.date c.number.result c.in_ok-date.ensures.value c.number.ensures.value none)

pub returns : goal.returns
returns c =
    let days = to_z-of_z w32 c.args.days c.ranges.days in
    let some = c.in_ok-number.ensures ∙ ap (λ (z : ℤ). moved_number z c.number.result) days in
    moved_some c.args.days c.args.text.now c.digits_of.result c.in_ok-date.date c.of_number.result c.number.result c.in_ok-number.number c.in_ok-date.ensures.value c.number.ensures.value some c.of_number.ensures.value c.digits_of.ensures
