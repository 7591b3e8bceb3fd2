use Rattle.std.proofs.Common.{subst, List, ℕ, Err}
use Rattle.dcm_trees.specs.Part as spec
use Rattle.dcm_trees.proofs.part.give_second_name.Goals as goal

pub returns-in-Err : goal.returns-in-Err
returns-in-Err g c = spec.was_there c.in-Err.e c.link.new.self c.in-Ok.ensures.cases.1 c.in-Ok-from_utf8.ensures.cases.1 (subst (λ (part : List ℕ). g.S.Folders.folders_do.links c.args.system.now part c.args.path.now (Err c.in-Err.e) c.link.new.self) c.in-Ok.ensures.cases.0 (subst (λ (path : List ℕ). g.S.Folders.folders_do.links c.args.system.now c.in-Ok.from.now path (Err c.in-Err.e) c.link.new.self) c.in-Ok-from_utf8.ensures.cases.0 c.in-Err.ensures)) (c.was_there.ensures.yes c.if-was_there.true) (subst (λ (path : List ℕ). spec.LooksAgain g.S.Folders.folders_do path c.args.base c.link.new.self c.look_again.result c.look_again.new.system) c.in-Ok-from_utf8.ensures.cases.0 c.look_again.ensures)

pub returns-in-Err-2 : goal.returns-in-Err-2
returns-in-Err-2 g c = spec.not_linked c.in-Err.e c.link.new.self c.in-Ok.ensures.cases.1 c.in-Ok-from_utf8.ensures.cases.1 (subst (λ (part : List ℕ). g.S.Folders.folders_do.links c.args.system.now part c.args.path.now (Err c.in-Err.e) c.link.new.self) c.in-Ok.ensures.cases.0 (subst (λ (path : List ℕ). g.S.Folders.folders_do.links c.args.system.now c.in-Ok.from.now path (Err c.in-Err.e) c.link.new.self) c.in-Ok-from_utf8.ensures.cases.0 c.in-Err.ensures)) (c.was_there.ensures.no c.if-was_there.false) (subst (λ (part : List ℕ). spec.MovesIfFree g.S.System.may_do g.S.Folders.folders_do part c.args.path.now c.args.base c.link.new.self c.move_if_free.result c.move_if_free.new.system) c.in-Ok.ensures.cases.0 (subst (λ (path : List ℕ). spec.MovesIfFree g.S.System.may_do g.S.Folders.folders_do c.in-Ok.from.now path c.args.base c.link.new.self c.move_if_free.result c.move_if_free.new.system) c.in-Ok-from_utf8.ensures.cases.0 c.move_if_free.ensures))
