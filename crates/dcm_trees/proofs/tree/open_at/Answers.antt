use Rattle.std.proofs.Common.{refl, subst, List, ℕ, Ok, Err}
use Rattle.dcm_trees.specs.Tree as spec
use Rattle.dcm_trees.proofs.tree.open_at.Goals as goal

pub returns-in-Ok-open_folder : goal.returns-in-Ok-open_folder
returns-in-Ok-open_folder g c = spec.was_opened c.in-Ok-open_folder.folder c.in-Ok.ensures.cases.1 (subst (λ (path : List ℕ). g.S.Folders.folders_do.opens_folder c.args.system.now path (Ok c.in-Ok-open_folder.folder) c.open_folder.new.self) c.in-Ok.ensures.cases.0 c.in-Ok-open_folder.ensures) refl

pub returns-in-Err : goal.returns-in-Err
returns-in-Err g c = spec.not_opened c.in-Err.field-0 c.in-Ok.ensures.cases.1 (subst (λ (path : List ℕ). g.S.Folders.folders_do.opens_folder c.args.system.now path (Err c.in-Err.field-0) c.open_folder.new.self) c.in-Ok.ensures.cases.0 c.in-Err.ensures) refl
