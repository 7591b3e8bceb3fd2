use Rattle.std.proofs.Common.{refl, subst, List, ℕ, Ok, Err}
use Rattle.dcm_files.specs.declared.folders.Links.TheVariants.{Kept}
use Rattle.dcm_trees.specs.Place as spec
use Rattle.dcm_trees.proofs.place.look.Goals as goal

pub returns-in_default : goal.returns-in_default
returns-in_default g c = spec.no_text _ c.in_default.ensures.cases.0 refl refl

pub returns-in-Ok-find : goal.returns-in-Ok-find
returns-in-Ok-find g c = spec.looked c.in-Ok-find.found c.in-Ok.ensures.cases.1 (subst (λ (path : List ℕ). g.S.Folders.folders_do.finds c.args.system.now path Kept (Ok c.in-Ok-find.found) c.find.new.self) c.in-Ok.ensures.cases.0 c.in-Ok-find.ensures) refl

pub returns-in-Err : goal.returns-in-Err
returns-in-Err g c = spec.not_looked c.in-Err.field-0 _ c.in-Ok.ensures.cases.1 (subst (λ (path : List ℕ). g.S.Folders.folders_do.finds c.args.system.now path Kept (Err c.in-Err.field-0) c.find.new.self) c.in-Ok.ensures.cases.0 c.in-Err.ensures) refl
