use Rattle.std.proofs.Common.{refl, subst, List, ℕ, Ok, Err}
use Rattle.dcm_trees.specs.Opening as spec
use Rattle.dcm_trees.proofs.part.open_file.Goals as goal

pub returns-in_default-open : goal.returns-in_default-open
returns-in_default-open g c = spec.not_opened c.in_default-open.field-0 c.in-Ok.ensures.cases.1 (subst (λ (path : List ℕ). g.S.System.may_do.opens c.args.system.now path (Err c.in_default-open.field-0) c.open.new.self) c.in-Ok.ensures.cases.0 c.in_default-open.ensures) refl

pub returns-then-is_directory : goal.returns-then-is_directory
returns-then-is_directory g c = spec.a_folder c.in-Ok-open.opened c.open.new.self c.in-Ok.ensures.cases.1 (subst (λ (path : List ℕ). g.S.System.may_do.opens c.args.system.now path (Ok c.in-Ok-open.opened) c.open.new.self) c.in-Ok.ensures.cases.0 c.in-Ok-open.ensures) (c.is_directory.ensures.yes c.if-is_directory.true) c.release.ensures refl

pub returns : goal.returns
returns g c = spec.opened c.in-Ok-open.opened c.in-Ok.ensures.cases.1 (subst (λ (path : List ℕ). g.S.System.may_do.opens c.args.system.now path (Ok c.in-Ok-open.opened) c.open.new.self) c.in-Ok.ensures.cases.0 c.in-Ok-open.ensures) (c.is_directory.ensures.no c.if-is_directory.false) refl
