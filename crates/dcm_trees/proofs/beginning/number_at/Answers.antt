use Rattle.std.proofs.Common.{rules, refl, subst, Ok, Option}
use Rattle.dcm_files.specs.declared.folders.Found.{Found}
use Rattle.dcm_trees.specs.Beginning as spec
use Rattle.dcm_trees.proofs.beginning.number_at.Goals as goal

pub returns-in-Ok-Some : goal.returns-in-Ok-Some
returns-in-Ok-Some g c = spec.numbered c.in-Ok-Some.found (subst (λ (o : Option Found). spec.Looks g.S.Folders.folders_do c.args.path.now c.args.system.now (Ok o) c.look.new.system) c.in-Ok-Some.field-0-is c.in-Ok-Some.ensures) (search rules)

pub returns-in-Ok-None : goal.returns-in-Ok-None
returns-in-Ok-None g c = spec.nothing (subst (λ (o : Option Found). spec.Looks g.S.Folders.folders_do c.args.path.now c.args.system.now (Ok o) c.look.new.system) c.in-Ok-None.field-0-is c.in-Ok-None.ensures) refl

pub returns-in-Err : goal.returns-in-Err
returns-in-Err g c = spec.not_seen c.in-Err.refusal c.in-Err.ensures refl
