use Rattle.std.proofs.Common.{refl}
use Rattle.dcm_trees.specs.Part as spec
use Rattle.dcm_trees.proofs.part.give_name.Goals as goal

pub returns-in-Ok : goal.returns-in-Ok
returns-in-Ok g c = spec.on_its_way c.make_way.new.system c.in-Ok.ensures c.give_second_name.ensures

pub returns-in-Err : goal.returns-in-Err
returns-in-Err g c = spec.no_way _ c.in-Err.ensures refl
