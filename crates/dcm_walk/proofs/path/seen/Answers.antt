use Rattle.std.proofs.Common.{◌∙◌, subst, List, ℕ, Err}
use Rattle.dcm_files.specs.declared.folders.Links.TheVariants.{Kept}
use Rattle.dcm_walk.specs.Folder.{not_looked}
use Rattle.dcm_walk.proofs.path.seen.Goals as goal

pub returns-in-Err : goal.returns-in-Err
returns-in-Err g c =
    not_looked c.in-Err.field-0
    (subst (λ (path : List ℕ). g.S.Folders.folders_do.finds c.args.system.now path Kept (Err c.in-Err.field-0) c.find.new.self) (c.text.ensures ∙ c.as_slice.ensures.value) c.in-Err.ensures)
