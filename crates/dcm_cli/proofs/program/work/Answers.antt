use Rattle.std.proofs.Common.{subst}
use Rattle.dcm_files.specs.Devices.{OpensDevices}
use Rattle.dcm_cli.specs.Program.{not_opened, has_run}
use Rattle.dcm_cli.proofs.program.work.Goals as goal

pub returns-in-Err-clause-works : goal.returns-in-Err-clause-works
returns-in-Err-clause-works g c =
    not_opened c.in-Err.unopened
    (subst (λ r. OpensDevices g.S.System.may_do c.args.planned.now.input.now c.args.planned.now.output.now c.args.planned.now.overwrites c.args.system.now r c.open_devices.new.system) c.in-Err.is c.open_devices.ensures)
    c.tell_unopened.ensures.line c.tell_unopened.ensures.status

pub returns-in-Ok-clause-works : goal.returns-in-Ok-clause-works
returns-in-Ok-clause-works g c =
    has_run c.in-Ok.input c.in-Ok.output c.open_devices.new.system
    (subst (λ r. OpensDevices g.S.System.may_do c.args.planned.now.input.now c.args.planned.now.output.now c.args.planned.now.overwrites c.args.system.now r c.open_devices.new.system) c.in-Ok.is c.open_devices.ensures)
    c.run_over.ensures.runs
