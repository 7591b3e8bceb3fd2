use Rattle.std.proofs.Common.{subst, List, ℕ}
use Rattle.dcm_trees.specs.Part as spec
use Rattle.dcm_trees.proofs.part.remove_part.Goals as goal

pub returns : goal.returns
returns g c = spec.removed c.remove.result c.in-Ok.ensures.cases.1 (subst (λ (path : List ℕ). g.S.System.may_do.removes c.args.system.now path c.remove.result c.remove.new.self) c.in-Ok.ensures.cases.0 c.remove.ensures)
