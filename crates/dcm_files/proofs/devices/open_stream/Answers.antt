use Rattle.std.proofs.Common.{rules, refl}
use Rattle.dcm_files.specs.Devices.{no_stdout, was_read_earlier, clashed, opened}
use Rattle.dcm_files.proofs.devices.open_stream.Goals as goal

pub returns-in-Err : goal.returns-in-Err
returns-in-Err g c = no_stdout c.in-Err.e c.unopened.result (search rules) c.unopened.ensures refl

pub returns-then-was_read : goal.returns-then-was_read
returns-then-was_read g c = was_read_earlier c.in-Ok.output c.stdout.new.self (search rules) (search rules) (search rules) refl

pub returns-in-Some : goal.returns-in-Some
returns-in-Some g c = clashed c.in-Ok.output c.in-Some.cause c.stdout.new.self (search rules) (search rules) (search rules) (search rules) refl

pub returns : goal.returns
returns g c = opened c.in-Ok.output (search rules) (search rules) (search rules) refl
