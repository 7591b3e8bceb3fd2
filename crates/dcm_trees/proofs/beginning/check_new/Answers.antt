use Rattle.std.proofs.Common.{sym, subst, List, ℕ}
use Rattle.dcm_trees.specs.Beginning as spec
use Rattle.dcm_trees.proofs.beginning.check_new.Goals as goal

pub returns-in-Some : goal.returns-in-Some
returns-in-Some g c =
    spec.followed c.in-Some.followed.items (sym c.in-Some.ensures)
    (subst (λ (path : List ℕ). spec.ChecksEmpty g.S.Folders.folders_do path c.args.system.now c.check_empty.result c.check_empty.new.system) c.as_slice.ensures.value c.check_empty.ensures)

pub returns-in-None : goal.returns-in-None
returns-in-None g c = spec.too_long (sym c.in-None.ensures) c.check_empty-in-None.ensures
