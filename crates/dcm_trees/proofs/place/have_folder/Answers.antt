use Rattle.std.proofs.Common.{refl, subst, List, ℕ, Bool, Ok, Err}
use Rattle.dcm_trees.specs.Modes.{FindsMode, modes_as}
use Rattle.dcm_trees.specs.Place as spec
use Rattle.dcm_trees.proofs.place.have_folder.Goals as goal

pub returns-then-is_folder : goal.returns-then-is_folder
returns-then-is_folder g c = spec.there_already (subst (λ (b : Bool). spec.FindsFolder g.S.Folders.folders_do c.args.path.now c.args.system.now b c.is_folder.new.system) c.if-is_folder.true c.is_folder.ensures) refl

pub returns-in-Ok : goal.returns-in-Ok
returns-in-Ok g c = spec.has_mode c.in-Ok.mode c.is_folder.new.system c.new_mode.new.system
    (subst (λ (b : Bool). spec.FindsFolder g.S.Folders.folders_do c.args.path.now c.args.system.now b c.is_folder.new.system) c.if-is_folder.false c.is_folder.ensures)
    (subst (λ (name : List ℕ). FindsMode g.S.Folders.folders_do (modes_as c.args.modes) name c.is_folder.new.system (Ok c.in-Ok.mode) c.new_mode.new.system) c.split_at.ensures.back c.in-Ok.ensures)
    c.make_new.ensures

pub returns-in-Err : goal.returns-in-Err
returns-in-Err g c = spec.no_mode c.in-Err.field-0 _ c.is_folder.new.system
    (subst (λ (b : Bool). spec.FindsFolder g.S.Folders.folders_do c.args.path.now c.args.system.now b c.is_folder.new.system) c.if-is_folder.false c.is_folder.ensures)
    (subst (λ (name : List ℕ). FindsMode g.S.Folders.folders_do (modes_as c.args.modes) name c.is_folder.new.system (Err c.in-Err.field-0) c.new_mode.new.system) c.split_at.ensures.back c.in-Err.ensures)
    refl
