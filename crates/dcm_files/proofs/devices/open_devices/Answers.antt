use Rattle.std.proofs.Common.{rules, subst, refl}
use Rattle.dcm_files.specs.Devices.{OpensInput, OpensOutput, no_input, no_output, both}
use Rattle.dcm_files.proofs.devices.open_devices.Goals as goal

pub returns-in-Err : goal.returns-in-Err
returns-in-Err g c =
    no_input c.in-Err.e c.unopened.result
    (subst (λ r. OpensInput g.S.System.may_do c.args.input.now c.args.system.now r c.open_input.new.system) c.in-Err.is c.open_input.ensures)
    c.unopened.ensures refl

pub returns-in-Ok-open_output : goal.returns-in-Ok-open_output
returns-in-Ok-open_output g c =
    both c.in-Ok.input c.in-Ok-open_output.output c.open_input.new.system
    (subst (λ r. OpensInput g.S.System.may_do c.args.input.now c.args.system.now r c.open_input.new.system) c.in-Ok.is c.open_input.ensures)
    (subst (λ r. OpensOutput g.S.System.may_do c.args.output.now c.args.overwrites c.in-Ok.input.kind c.open_input.new.system r c.open_output.new.system) c.in-Ok-open_output.is c.open_output.ensures)
    refl

pub returns-in-Err-open_output : goal.returns-in-Err-open_output
returns-in-Err-open_output g c =
    no_output c.in-Ok.input c.in-Err-open_output.cause c.open_input.new.system c.open_output.new.system
    (subst (λ r. OpensInput g.S.System.may_do c.args.input.now c.args.system.now r c.open_input.new.system) c.in-Ok.is c.open_input.ensures)
    (subst (λ r. OpensOutput g.S.System.may_do c.args.output.now c.args.overwrites c.in-Ok.input.kind c.open_input.new.system r c.open_output.new.system) c.in-Err-open_output.is c.open_output.ensures)
    (search rules) refl
