use Rattle.std.proofs.Common.{refl, subst, List, ℕ, Ok, Err}
use Rattle.dcm_trees.specs.Part as spec
use Rattle.dcm_trees.proofs.part.make_part.Goals as goal

pub returns-in-Ok-create_as : goal.returns-in-Ok-create_as
returns-in-Ok-create_as g c = spec.made c.in-Ok-create_as.opened c.in-Ok.ensures.cases.1 (subst (λ (path : List ℕ). g.S.Folders.folders_do.makes_as c.args.system.now path c.args.mode (Ok c.in-Ok-create_as.opened) c.create_as.new.self) c.in-Ok.ensures.cases.0 c.in-Ok-create_as.ensures) refl

pub returns-in-Err : goal.returns-in-Err
returns-in-Err g c = spec.is_there c.in-Err.e c.in-Ok.ensures.cases.1 (subst (λ (path : List ℕ). g.S.Folders.folders_do.makes_as c.args.system.now path c.args.mode (Err c.in-Err.e) c.create_as.new.self) c.in-Ok.ensures.cases.0 c.in-Err.ensures) (c.was_there.ensures.yes c.if-was_there.true) refl

pub returns-in-Err-2 : goal.returns-in-Err-2
returns-in-Err-2 g c = spec.no_memory c.in-Err.e c.in-Ok.ensures.cases.1 (subst (λ (path : List ℕ). g.S.Folders.folders_do.makes_as c.args.system.now path c.args.mode (Err c.in-Err.e) c.create_as.new.self) c.in-Ok.ensures.cases.0 c.in-Err.ensures) (c.wants_memory.ensures.yes c.if-wants_memory.true) refl

pub returns-in-Err-3 : goal.returns-in-Err-3
returns-in-Err-3 g c = spec.not_made c.in-Err.e c.in-Ok.ensures.cases.1 (subst (λ (path : List ℕ). g.S.Folders.folders_do.makes_as c.args.system.now path c.args.mode (Err c.in-Err.e) c.create_as.new.self) c.in-Ok.ensures.cases.0 c.in-Err.ensures) (c.was_there.ensures.no c.if-was_there.false) (c.wants_memory.ensures.no c.if-wants_memory.false) refl
