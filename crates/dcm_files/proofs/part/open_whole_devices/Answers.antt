use Rattle.std.proofs.Common.{rules, refl, subst}
use Rattle.dcm_files.specs.Devices.{OpensInput}
use Rattle.dcm_files.specs.Part.{OpensWhole, no_input, no_output, both}
use Rattle.dcm_files.proofs.part.open_whole_devices.Goals as goal

pub returns-in-Err : goal.returns-in-Err
returns-in-Err g c =
    no_input c.in-Err.e c.unopened.result
    (subst (λ r. OpensInput g.S.System.may_do c.args.input.now c.args.system.now r c.open_input.new.system) c.in-Err.is c.open_input.ensures)
    c.unopened.ensures refl

pub returns-in-Ok-open_whole : goal.returns-in-Ok-open_whole
returns-in-Ok-open_whole g c =
    both c.in-Ok.input c.in-Ok-open_whole.output c.open_input.new.system
    (subst (λ r. OpensInput g.S.System.may_do c.args.input.now c.args.system.now r c.open_input.new.system) c.in-Ok.is c.open_input.ensures)
    (subst (λ r. OpensWhole g.S.System.may_do c.args.output.now c.args.overwrites c.in-Ok.input.kind c.args.earlier c.open_input.new.system r c.open_whole.new.system) c.in-Ok-open_whole.is c.open_whole.ensures)
    refl

pub returns-in-Err-open_whole : goal.returns-in-Err-open_whole
returns-in-Err-open_whole g c =
    no_output c.in-Ok.input c.in-Err-open_whole.cause c.open_input.new.system c.open_whole.new.system
    (subst (λ r. OpensInput g.S.System.may_do c.args.input.now c.args.system.now r c.open_input.new.system) c.in-Ok.is c.open_input.ensures)
    (subst (λ r. OpensWhole g.S.System.may_do c.args.output.now c.args.overwrites c.in-Ok.input.kind c.args.earlier c.open_input.new.system r c.open_whole.new.system) c.in-Err-open_whole.is c.open_whole.ensures)
    (search rules) refl
