use Rattle.std.proofs.Common.{◌≡◌, ◌∙◌, ap, rules, subst, w32, Ok, Err}
use Rattle.std.proofs.lemmas.Int.{to_z-of_z}
use Rattle.dcm_words.specs.Words.{with_days}
use Rattle.dcm_cli.specs.Days.{TakesDays}
use Rattle.dcm_cli.specs.Program.{no_days, by_days}
use Rattle.dcm_cli.proofs.Passes.Readers.{members}
use Rattle.dcm_cli.proofs.program.deidentify_by_days.Goals as goal

pub returns-in-Err-clause-works : goal.returns-in-Err-clause-works
returns-in-Err-clause-works g c =
    let same : c.as_slice.result.now ≡ c.args.key.bytes.items = search rules in
    no_days c.in-Err.cause
    (subst (λ k. TakesDays g.S.System.may_do (members g.S.Input.Device g.S.Input.DeviceIn) c.args.planned.now.input.now k c.args.system.now (Err c.in-Err.cause) c.take_days.new.system) same
    (subst (λ r. TakesDays g.S.System.may_do (members g.S.Input.Device g.S.Input.DeviceIn) c.args.planned.now.input.now c.as_slice.result.now c.args.system.now r c.take_days.new.system) c.in-Err.is c.take_days.ensures))
    c.tell_no_days.ensures.line c.tell_no_days.ensures.status

pub returns-in-Ok-clause-works : goal.returns-in-Ok-clause-works
returns-in-Ok-clause-works g c =
    let same : c.as_slice.result.now ≡ c.args.key.bytes.items = search rules in
    let options : c.with_days-options.result ≡ with_days c.args.what.now.options c.in-Ok.days = c.with_days-options.ensures ∙ ap (with_days c.args.what.now.options) (to_z-of_z w32 c.in-Ok.days (search rules)) in
    by_days c.in-Ok.days c.take_days.new.system
    (subst (λ k. TakesDays g.S.System.may_do (members g.S.Input.Device g.S.Input.DeviceIn) c.args.planned.now.input.now k c.args.system.now (Ok c.in-Ok.days) c.take_days.new.system) same
    (subst (λ r. TakesDays g.S.System.may_do (members g.S.Input.Device g.S.Input.DeviceIn) c.args.planned.now.input.now c.as_slice.result.now c.args.system.now r c.take_days.new.system) c.in-Ok.is c.take_days.ensures))
    (rw options at c.deidentify_with.ensures.works)
