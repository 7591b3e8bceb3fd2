use Rattle.std.proofs.Common.{ap, subst, ◌∙◌, option_map}
use Rattle.dcm_cli.specs.Keys.{TakesKey}
use Rattle.dcm_cli.specs.Program.{without_key, no_key, with_key, with_days_of_key}
use Rattle.dcm_cli.proofs.Passes.Readers.{members}
use Rattle.dcm_cli.proofs.Runs.Texts.{none_of}
use Rattle.dcm_cli.proofs.program.deidentify.Goals as goal

pub returns-in_default-clause-works : goal.returns-in_default-clause-works
returns-in_default-clause-works g c =
    without_key (ap (λ o. option_map (λ k. k.now) o) (none_of c.args.planned.now.key c.in_default.not-Some)) c.work_whole.ensures.works

pub returns-in-Err-clause-works : goal.returns-in-Err-clause-works
returns-in-Err-clause-works g c =
    no_key c.in-Some.path.now c.in-Err.cause (ap (λ o. option_map (λ k. k.now) o) c.in-Some.is)
    (subst (λ r. TakesKey g.S.System.may_do (members g.S.Input.Device g.S.Input.DeviceIn) c.in-Some.path.now c.args.system.now r c.take_key.new.system) c.in-Err.is c.take_key.ensures)
    c.tell_no_key.ensures.line c.tell_no_key.ensures.status

pub returns-in-Ok-clause-works : goal.returns-in-Ok-clause-works
returns-in-Ok-clause-works g c =
    with_days_of_key c.in-Some.path.now c.in-Ok.key c.take_key.new.system (ap (λ o. option_map (λ k. k.now) o) c.in-Some.is)
    (subst (λ r. TakesKey g.S.System.may_do (members g.S.Input.Device g.S.Input.DeviceIn) c.in-Some.path.now c.args.system.now r c.take_key.new.system) c.in-Ok.is c.take_key.ensures)
    c.if-planned.true c.deidentify_by_days.ensures.works

pub returns-in-Ok-2-clause-works : goal.returns-in-Ok-2-clause-works
returns-in-Ok-2-clause-works g c =
    with_key c.in-Some.path.now c.in-Ok.key c.take_key.new.system (ap (λ o. option_map (λ k. k.now) o) c.in-Some.is)
    (subst (λ r. TakesKey g.S.System.may_do (members g.S.Input.Device g.S.Input.DeviceIn) c.in-Some.path.now c.args.system.now r c.take_key.new.system) c.in-Ok.is c.take_key.ensures)
    c.if-planned.false c.deidentify_with.ensures.works
