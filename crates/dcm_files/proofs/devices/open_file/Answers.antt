use Rattle.std.proofs.Common.{rules, refl, subst}
use Rattle.dcm_files.specs.Devices.{CreatesOutput, not_seen, barred_there, not_barred}
use Rattle.dcm_files.proofs.devices.open_file.Goals as goal

pub returns-in-Err : goal.returns-in-Err
returns-in-Err g c = not_seen c.in-Err.e c.unopened.result (search rules) (search rules) c.unopened.ensures refl

pub returns-in-Some : goal.returns-in-Some
returns-in-Some g c = barred_there c.in-Ok-kind_at.there c.in-Some.cause (search rules) (search rules) (search rules) refl

pub returns : goal.returns
returns g c =
    not_barred c.in-Ok-kind_at.there c.kind_at.new.self (search rules) (search rules) (search rules)
    (subst (λ path. CreatesOutput g.S.System.may_do path c.args.overwrites c.args.input c.kind_at.new.self c.create_output.result c.create_output.new.system) (search rules) c.create_output.ensures)
