use Rattle.std.proofs.Common.{refl, subst}
use Rattle.dcm_files.specs.Part.{OpensWholeDevices}
use Rattle.dcm_cli.specs.Program.{none_opened, has_ended}
use Rattle.dcm_cli.proofs.program.work_whole.Goals as goal

pub returns-in-Err-clause-works : goal.returns-in-Err-clause-works
returns-in-Err-clause-works g c =
    none_opened c.in-Err.unopened
    (subst (λ r. OpensWholeDevices g.S.System.may_do c.args.planned.now.input.now c.args.planned.now.output.now c.args.planned.now.overwrites c.args.earlier c.args.system.now r c.open_whole_devices.new.system) c.in-Err.is c.open_whole_devices.ensures)
    c.tell_unopened.ensures.line c.tell_unopened.ensures.status

pub returns-in-Ok-clause-works : goal.returns-in-Ok-clause-works
returns-in-Ok-clause-works g c =
    has_ended c.in-Ok.input c.in-Ok.output c.open_whole_devices.new.system c.run_over-ran.new.system c.run_over-ran.result _ _
    (subst (λ r. OpensWholeDevices g.S.System.may_do c.args.planned.now.input.now c.args.planned.now.output.now c.args.planned.now.overwrites c.args.earlier c.args.system.now r c.open_whole_devices.new.system) c.in-Ok.is c.open_whole_devices.ensures)
    c.run_over-ran.ensures.runs c.end_output.ensures.ends (record { begins = (refl, refl); meets = (refl, refl); ends = (refl, refl) })
