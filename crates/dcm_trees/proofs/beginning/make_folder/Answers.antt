use Rattle.std.proofs.Common.{refl, subst, List, ℕ, Err}
use Rattle.dcm_trees.specs.Beginning as spec
use Rattle.dcm_trees.proofs.beginning.make_folder.Goals as goal

pub returns-in-Err : goal.returns-in-Err
returns-in-Err g c = spec.was_there c.in-Err.e c.in-Ok.ensures.cases.1 (subst (λ (path : List ℕ). g.S.Folders.folders_do.makes_folder c.args.system.now path c.args.mode (Err c.in-Err.e) c.make_folder.new.self) c.in-Ok.ensures.cases.0 c.in-Err.ensures) (c.was_there.ensures.yes c.if-was_there.true) refl

pub returns-in-Err-2 : goal.returns-in-Err-2
returns-in-Err-2 g c = spec.not_made c.in-Err.e c.in-Ok.ensures.cases.1 (subst (λ (path : List ℕ). g.S.Folders.folders_do.makes_folder c.args.system.now path c.args.mode (Err c.in-Err.e) c.make_folder.new.self) c.in-Ok.ensures.cases.0 c.in-Err.ensures) (c.was_there.ensures.no c.if-was_there.false) refl
