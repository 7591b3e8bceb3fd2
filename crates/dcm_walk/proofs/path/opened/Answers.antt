use Rattle.std.proofs.Common.{◌∙◌, subst, List, ℕ, Err}
use Rattle.dcm_walk.specs.Folder.{not_there}
use Rattle.dcm_walk.proofs.path.opened.Goals as goal

pub returns-in-Err : goal.returns-in-Err
returns-in-Err g c =
    not_there c.in-Err.field-0
    (subst (λ (path : List ℕ). g.S.Folders.folders_do.opens_folder c.args.system.now path (Err c.in-Err.field-0) c.open_folder.new.self) (c.text.ensures ∙ c.as_slice.ensures.value) c.in-Err.ensures)
