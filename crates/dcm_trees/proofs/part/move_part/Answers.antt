use Rattle.std.proofs.Common.{refl}
use Rattle.dcm_trees.specs.Part as spec
use Rattle.dcm_trees.proofs.part.move_part.Goals as goal

pub returns-in-Err : goal.returns-in-Err
returns-in-Err g c = spec.not_moved c.in-Err.field-0 c.in-Err.ensures refl
