use Rattle.std.proofs.Common.{rules, refl, subst}
use Rattle.dcm_files.specs.Devices.{OpensInput}
use Rattle.dcm_cli.specs.Keys.{not_opened, no_key, key}
use Rattle.dcm_cli.proofs.Passes.Readers.{members}
use Rattle.dcm_cli.proofs.Passes.KeyBytes.{read_over}
use Rattle.dcm_cli.proofs.key.take_key.Goals as goal

pub returns-in-Err : goal.returns-in-Err
returns-in-Err g c =
    not_opened c.in-Err.e c.no_key.result
    (subst (λ r. OpensInput g.S.System.may_do c.args.path.now c.args.system.now r c.open_input.new.system) c.in-Err.is c.open_input.ensures)
    (record { memory = c.no_key.ensures.memory; other = c.no_key.ensures.other }) refl

pub returns-in-Ok-read : goal.returns-in-Ok-read
returns-in-Ok-read g c =
    key c.in-Ok.opened c.read_key-read.new.input c.open_input.new.system (record { bytes = c.in-Ok-read.bytes; kind = c.in-Ok.opened.kind })
    (subst (λ r. OpensInput g.S.System.may_do c.args.path.now c.args.system.now r c.open_input.new.system) c.in-Ok.is c.open_input.ensures)
    (read_over (members g.S.Input.Device g.S.Input.DeviceIn) _ _ _ _ _ c.new-input.ensures c.in-Ok-read.is (record {
      given = c.read_key-read.ensures.given;
      how = c.read_key-read.ensures.how;
      reads = c.read_key-read.ensures.reads;
      key_is = c.read_key-read.ensures.key_is;
    }))
    refl (search rules) refl

pub returns-in-Err-read : goal.returns-in-Err-read
returns-in-Err-read g c =
    no_key c.in-Ok.opened c.read_key-read.new.input c.open_input.new.system c.in-Err-read.cause
    (subst (λ r. OpensInput g.S.System.may_do c.args.path.now c.args.system.now r c.open_input.new.system) c.in-Ok.is c.open_input.ensures)
    (read_over (members g.S.Input.Device g.S.Input.DeviceIn) _ _ _ _ _ c.new-input.ensures c.in-Err-read.is (record {
      given = c.read_key-read.ensures.given;
      how = c.read_key-read.ensures.how;
      reads = c.read_key-read.ensures.reads;
      key_is = c.read_key-read.ensures.key_is;
    }))
    (search rules) refl
