use Rattle.std.proofs.Common.{rules, refl, subst, sym}
use Rattle.dcm_files.specs.Devices.{OpensInput}
use Rattle.dcm_cli.specs.First.{ReadsFirst}
use Rattle.dcm_cli.specs.Days.{not_opened, not_regular, was_read}
use Rattle.dcm_cli.proofs.Passes.Readers.{members}
use Rattle.dcm_cli.proofs.days.take_days.Goals as goal

pub returns-in-Err : goal.returns-in-Err
returns-in-Err g c =
    not_opened c.in-Err.e c.no_days.result
    (subst (λ r. OpensInput g.S.System.may_do c.args.path.now c.args.system.now r c.open_input.new.system) c.in-Err.is c.open_input.ensures)
    (record { memory = c.no_days.ensures.memory; other = c.no_days.ensures.other }) refl

pub returns-then-not-is_regular : goal.returns-then-not-is_regular
returns-then-not-is_regular g c =
    not_regular c.in-Ok.opened c.open_input.new.system
    (subst (λ r. OpensInput g.S.System.may_do c.args.path.now c.args.system.now r c.open_input.new.system) c.in-Ok.is c.open_input.ensures)
    (sym c.if-not-is_regular.ensures) (search rules) refl

pub returns : goal.returns
returns g c =
    was_read c.in-Ok.opened c.first_reading-end.new.input c.open_input.new.system c.first_reading-end.result
    (subst (λ r. OpensInput g.S.System.may_do c.args.path.now c.args.system.now r c.open_input.new.system) c.in-Ok.is c.open_input.ensures)
    (sym c.if-not-is_regular.ensures)
    (subst (λ x. ReadsFirst (members g.S.Input.Device g.S.Input.DeviceIn) x c.first_reading-end.new.input c.args.key.now c.first_reading-end.result) c.new-input.ensures (record {
      given = c.first_reading-end.ensures.given;
      how = c.first_reading-end.ensures.how;
      reads = c.first_reading-end.ensures.reads;
      comes = c.first_reading-end.ensures.comes;
      failed = c.first_reading-end.ensures.failed;
    }))
    (search rules) c.days_of.ensures
