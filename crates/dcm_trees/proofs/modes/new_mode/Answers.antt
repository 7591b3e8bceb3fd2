use Rattle.std.proofs.Common.{refl, ap, subst, List, ℕ, Ok, Err}
use Rattle.std.specs.Option.{option_map}
use Rattle.dcm_trees.specs.Modes as spec
use Rattle.dcm_trees.proofs.modes.new_mode.Goals as goal

pub returns-in_default : goal.returns-in_default
returns-in_default g c = spec.usual (ap (option_map (λ f. f.now)) c.in_default.is) refl refl

pub returns-in-Ok : goal.returns-in-Ok
returns-in-Ok g c = spec.like c.in-Some.folder.now c.in-Ok.mode (ap (option_map (λ f. f.now)) c.in-Some.is)
    (subst (λ (name : List ℕ). g.S.Folders.folders_do.modes c.args.system.now c.in-Some.folder.now name (Ok c.in-Ok.mode) c.mode_in.new.self) c.name_like.ensures c.in-Ok.ensures)
    (ap Ok c.mode_like.ensures)

pub returns-in-Err : goal.returns-in-Err
returns-in-Err g c = spec.not_seen c.in-Some.folder.now c.in-Err.field-0 _ (ap (option_map (λ f. f.now)) c.in-Some.is)
    (subst (λ (name : List ℕ). g.S.Folders.folders_do.modes c.args.system.now c.in-Some.folder.now name (Err c.in-Err.field-0) c.mode_in.new.self) c.name_like.ensures c.in-Err.ensures)
    refl
