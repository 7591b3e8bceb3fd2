use Rattle.std.proofs.Common.{refl}
use Rattle.dcm_trees.specs.Letters as spec
use Rattle.dcm_trees.proofs.letters.remove_held.Goals as goal

pub returns-in-Err : goal.returns-in-Err
returns-in-Err g c = spec.not_removed c.in-Err.field-0 c.in-Err.ensures refl
