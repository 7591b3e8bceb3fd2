use Rattle.std.proofs.Common.{ap, refl, Ok, Err}
use Rattle.dcm_trees.specs.Instance as spec
use Rattle.dcm_trees.proofs.instance.end_without_part.Goals as goal

pub returns-in-Ok : goal.returns-in-Ok
returns-in-Ok g c = spec.ended (Ok c.in-Ok.fate) c.in-Ok.ensures (ap Ok c.without_name.ensures)

pub returns-in-Err : goal.returns-in-Err
returns-in-Err g c = spec.ended (Err c.in-Err.stop) c.in-Err.ensures refl
