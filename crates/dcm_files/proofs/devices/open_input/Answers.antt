use Rattle.std.proofs.Common.{rules, refl}
use Rattle.dcm_files.specs.Devices.{stream, no_text, refused, directory, opened}
use Rattle.dcm_files.proofs.devices.open_input.Goals as goal

pub returns-then-eq : goal.returns-then-eq
returns-then-eq g c = stream c.stdin.result (search rules) (search rules) refl

pub returns-in_err-path : goal.returns-in_err-path
returns-in_err-path g c = no_text c.in_err-path.field-0.0 (search rules) (search rules) (search rules) (search rules) refl

pub returns-in_err-input : goal.returns-in_err-input
returns-in_err-input g c = refused c.in_err-input.field-0.0 (search rules) (search rules) (search rules) (search rules)

pub returns-then-eq-2 : goal.returns-then-eq-2
returns-then-eq-2 g c = directory c.in_ok-input.input c.from.result c.«open».new.self (search rules) (search rules) (search rules) (search rules) (search rules) (search rules) refl

pub returns : goal.returns
returns g c = opened c.in_ok-input.input (search rules) (search rules) (search rules) (search rules) refl
