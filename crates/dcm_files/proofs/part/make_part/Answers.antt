use Rattle.std.proofs.Common.{rules, refl}
use Rattle.dcm_files.specs.Part.{not_made, has_made}
use Rattle.dcm_files.proofs.part.make_part.Goals as goal

pub returns-in-Ok-create_new : goal.returns-in-Ok-create_new
returns-in-Ok-create_new g c = has_made c.in-Ok-create_new.output (search rules) (search rules) refl

pub returns-in-Err : goal.returns-in-Err
returns-in-Err g c = not_made c.in-Err.e c.unmade.result (search rules) (search rules) c.unmade.ensures refl
