use Rattle.std.proofs.Common.{rules, refl}
use Rattle.dcm_files.specs.Devices.{not_created, barred_open, created}
use Rattle.dcm_files.proofs.devices.create_output.Goals as goal

pub returns-in-Err : goal.returns-in-Err
returns-in-Err g c = not_created c.in-Err.e c.unopened.result (search rules) c.unopened.ensures refl

pub returns-in-Some : goal.returns-in-Some
returns-in-Some g c = barred_open c.in-Ok.output c.in-Some.cause c.create.new.self (search rules) (search rules) (search rules) refl

pub returns : goal.returns
returns g c = created c.in-Ok.output (search rules) (search rules) refl
