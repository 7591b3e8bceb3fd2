use Rattle.std.proofs.Common.{refl, subst, List, ℕ, Err, Bool}
use Rattle.dcm_trees.specs.Place as spec
use Rattle.dcm_trees.proofs.place.make_new.Goals as goal

pub returns-in_default : goal.returns-in_default
returns-in_default g c = spec.no_text _ c.in_default.ensures.cases.0 refl refl

pub returns-then-is_folder : goal.returns-then-is_folder
returns-then-is_folder g c = spec.was_there c.in-Err.e c.make_folder.new.self c.in-Ok.ensures.cases.1 (subst (λ (path : List ℕ). g.S.Folders.folders_do.makes_folder c.args.system.now path c.args.mode (Err c.in-Err.e) c.make_folder.new.self) c.in-Ok.ensures.cases.0 c.in-Err.ensures) (c.was_there.ensures.yes c.if-was_there.true) (subst (λ (b : Bool). spec.FindsFolder g.S.Folders.folders_do c.args.path.now c.make_folder.new.self b c.is_folder.new.system) c.if-is_folder.true c.is_folder.ensures) refl

pub returns-else-is_folder : goal.returns-else-is_folder
returns-else-is_folder g c = spec.no_folder c.in-Err.e _ c.make_folder.new.self c.in-Ok.ensures.cases.1 (subst (λ (path : List ℕ). g.S.Folders.folders_do.makes_folder c.args.system.now path c.args.mode (Err c.in-Err.e) c.make_folder.new.self) c.in-Ok.ensures.cases.0 c.in-Err.ensures) (c.was_there.ensures.yes c.if-was_there.true) (subst (λ (b : Bool). spec.FindsFolder g.S.Folders.folders_do c.args.path.now c.make_folder.new.self b c.is_folder.new.system) c.if-is_folder.false c.is_folder.ensures) refl

pub returns-in-Err-2 : goal.returns-in-Err-2
returns-in-Err-2 g c = spec.not_made c.in-Err.e _ c.in-Ok.ensures.cases.1 (subst (λ (path : List ℕ). g.S.Folders.folders_do.makes_folder c.args.system.now path c.args.mode (Err c.in-Err.e) c.make_folder.new.self) c.in-Ok.ensures.cases.0 c.in-Err.ensures) (c.was_there.ensures.no c.if-was_there.false) refl
