use Rattle.std.proofs.Common.{rules, refl}
use Rattle.dcm_files.specs.Part.{not_seen, not_replaced, output_too_long}
use Rattle.dcm_files.proofs.part.find_part.Goals as goal

pub returns-in-Err-clause-err : goal.returns-in-Err-clause-err
returns-in-Err-clause-err g c = not_seen c.in-Err.e (search rules) (search rules) c.unopened.ensures

pub returns-in-Some-clause-err : goal.returns-in-Some-clause-err
returns-in-Some-clause-err g c = not_replaced c.in-Ok-kind_at.there (search rules) (search rules) (search rules)

pub returns-in-Err-part_of-clause-err : goal.returns-in-Err-part_of-clause-err
returns-in-Err-part_of-clause-err g c = output_too_long c.in-Ok-kind_at.there (search rules) (search rules) (search rules) (search rules) refl
