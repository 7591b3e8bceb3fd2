use Rattle.std.proofs.Common.{subst, List, ℕ, Err}
use Rattle.dcm_files.specs.declared.folders.Links.TheVariants.{Followed}
use Rattle.dcm_walk.specs.List.{not_looked}
use Rattle.dcm_walk.proofs.list.seen.Goals as goal

pub returns-in-Err : goal.returns-in-Err
returns-in-Err g c =
    not_looked c.in-Err.field-0 c.in-Ok.ensures.cases.1
    (subst (λ (path : List ℕ). g.S.Folders.folders_do.finds c.args.system.now path Followed (Err c.in-Err.field-0) c.find.new.self) c.in-Ok.ensures.cases.0 c.in-Err.ensures)
