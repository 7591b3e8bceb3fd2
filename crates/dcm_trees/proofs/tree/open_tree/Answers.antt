use Rattle.std.proofs.Common.{sym, subst, List, ℕ}
use Rattle.dcm_trees.specs.Tree as spec
use Rattle.dcm_trees.proofs.tree.open_tree.Goals as goal

pub returns-in-Some : goal.returns-in-Some
returns-in-Some g c =
    spec.followed c.in-Some.followed.items (sym c.in-Some.ensures)
    (subst (λ (path : List ℕ). spec.OpensFolder g.S.Folders.folders_do path c.args.system.now c.open_at.result c.open_at.new.system) c.as_slice.ensures.value c.open_at.ensures)

pub returns-in-None : goal.returns-in-None
returns-in-None g c = spec.too_long (sym c.in-None.ensures) c.open_at-in-None.ensures
