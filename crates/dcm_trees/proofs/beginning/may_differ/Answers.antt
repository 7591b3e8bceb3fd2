use Rattle.std.proofs.Common.{rules, refl}
use Rattle.dcm_trees.specs.Beginning as spec
use Rattle.dcm_trees.proofs.beginning.may_differ.Goals as goal

pub returns-then-is_list : goal.returns-then-is_list
returns-then-is_list g c = spec.of_list c.if-is_list.true refl refl

pub returns-in-Ok : goal.returns-in-Ok
returns-in-Ok g c = spec.of_folder c.in-Ok.read c.if-is_list.false c.in-Ok.ensures (search rules)

pub returns-in-Err : goal.returns-in-Err
returns-in-Err g c = spec.not_numbered c.in-Err.refusal c.if-is_list.false c.in-Err.ensures refl
