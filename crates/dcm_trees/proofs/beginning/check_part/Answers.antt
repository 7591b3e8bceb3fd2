use Rattle.std.proofs.Common.{refl, subst, List, ℕ, Ok, Err, Option}
use Rattle.dcm_files.specs.declared.folders.Links.TheVariants.{Kept}
use Rattle.dcm_files.specs.declared.folders.Found.{Found}
use Rattle.dcm_trees.specs.Beginning as spec
use Rattle.dcm_trees.proofs.beginning.check_part.Goals as goal

pub returns-in-Ok-Some : goal.returns-in-Ok-Some
returns-in-Ok-Some g c = spec.is_there c.in-Ok-Some.found c.find.new.self c.in-Ok.ensures.cases.1 (subst (λ (o : Option Found). g.S.Folders.folders_do.finds c.args.system.now c.args.part.now Kept (Ok o) c.find.new.self) c.in-Ok-Some.field-0-is (subst (λ (path : List ℕ). g.S.Folders.folders_do.finds c.args.system.now path Kept (Ok c.in-Ok-Some.field-0) c.find.new.self) c.in-Ok.ensures.cases.0 c.in-Ok-Some.ensures)) (subst (λ (path : List ℕ). spec.ClearsFound g.S.System.may_do path c.args.spared c.in-Ok-Some.found c.find.new.self c.clear_found.result c.clear_found.new.system) c.in-Ok.ensures.cases.0 c.clear_found.ensures)

pub returns-in-Err : goal.returns-in-Err
returns-in-Err g c = spec.not_seen c.in-Err.field-0 c.in-Ok.ensures.cases.1 (subst (λ (path : List ℕ). g.S.Folders.folders_do.finds c.args.system.now path Kept (Err c.in-Err.field-0) c.find.new.self) c.in-Ok.ensures.cases.0 c.in-Err.ensures) refl
