use Rattle.std.proofs.Common.{refl, subst, Ok, Bool}
use Rattle.dcm_trees.specs.Beginning as spec
use Rattle.dcm_trees.proofs.beginning.remove_left.Goals as goal

pub returns-in-Ok-true : goal.returns-in-Ok-true
returns-in-Ok-true g c = spec.locked c.seize.new.self (subst (λ (b : Bool). g.S.System.may_do.seizes c.args.system.now c.args.part.now (Ok b) c.seize.new.self) c.in-Ok-true.field-0-test c.in-Ok-true.ensures) c.remove_locked.ensures

pub returns-in-Ok-false : goal.returns-in-Ok-false
returns-in-Ok-false g c = spec.at_work (subst (λ (b : Bool). g.S.System.may_do.seizes c.args.system.now c.args.part.now (Ok b) c.seize.new.self) c.in-Ok-false.field-0-test c.in-Ok-false.ensures) refl

pub returns-in-Err : goal.returns-in-Err
returns-in-Err g c = spec.not_locked c.in-Err.field-0 c.in-Err.ensures refl
