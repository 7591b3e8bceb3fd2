use Rattle.std.proofs.Common.{rules, refl}
use Rattle.dcm_trees.specs.Beginning as spec
use Rattle.dcm_trees.proofs.beginning.clear_way.Goals as goal

pub returns-in_err-was_left : goal.returns-in_err-was_left
returns-in_err-was_left g c = spec.not_clear _ c.in_err-was_left.ensures refl (search rules)

pub returns : goal.returns
returns g c = spec.clear c.in_ok-was_left.was_left c.in_ok-was_left.ensures c.tell_left.ensures refl
