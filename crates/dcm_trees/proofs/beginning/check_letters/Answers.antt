use Rattle.std.proofs.Common.{refl, subst, Bool, Ok}
use Rattle.dcm_trees.specs.Beginning as spec
use Rattle.dcm_trees.proofs.beginning.check_letters.Goals as goal

pub returns-in-Ok-true : goal.returns-in-Ok-true
returns-in-Ok-true g c = spec.may_differ c.may_differ.new.system (subst (λ (b : Bool). spec.MayDiffer g.S.Folders.folders_do c.args.input.now c.args.is_list c.args.number c.args.system.now (Ok b) c.may_differ.new.system) c.in-Ok-true.field-0-test c.in-Ok-true.ensures) c.try_letters.ensures

pub returns-in-Ok-false : goal.returns-in-Ok-false
returns-in-Ok-false g c = spec.of_one_device (subst (λ (b : Bool). spec.MayDiffer g.S.Folders.folders_do c.args.input.now c.args.is_list c.args.number c.args.system.now (Ok b) c.may_differ.new.system) c.in-Ok-false.field-0-test c.in-Ok-false.ensures) refl

pub returns-in-Err : goal.returns-in-Err
returns-in-Err g c = spec.not_seen c.in-Err.refusal c.in-Err.ensures refl
