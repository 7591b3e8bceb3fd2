use Rattle.std.proofs.Common.{subst, List, ℕ}
use Rattle.dcm_trees.specs.Letters as spec
use Rattle.dcm_trees.proofs.letters.remove_made.Goals as goal

pub returns : goal.returns
returns g c = spec.by_path c.in-Ok.ensures.cases.1 (subst (λ (path : List ℕ). spec.RemovesOwn g.S.System.may_do path c.args.system.now c.remove_own.result c.remove_own.new.system) c.in-Ok.ensures.cases.0 c.remove_own.ensures)
