use Rattle.std.proofs.Common.{◌∙◌, sym, refl}
use Rattle.dcm_trees.specs.Beginning as spec
use Rattle.dcm_trees.proofs.beginning.clear_found.Goals as goal

pub returns-then-may_be_left : goal.returns-then-may_be_left
returns-then-may_be_left g c = spec.may_be (sym c.may_be_left.ensures ∙ c.if-may_be_left.true) c.remove_left.ensures

pub returns-else-may_be_left : goal.returns-else-may_be_left
returns-else-may_be_left g c = spec.is_other (sym c.may_be_left.ensures ∙ c.if-may_be_left.false) refl refl
