use Rattle.std.proofs.Common.{refl, sym, ◌∙◌}
use Rattle.dcm_trees.specs.Part as spec
use Rattle.dcm_trees.proofs.part.clear_part.Goals as goal

pub returns-then-is_moved : goal.returns-then-is_moved
returns-then-is_moved g c = spec.moved (sym c.is_moved.ensures ∙ c.if-is_moved.true) refl

pub returns : goal.returns
returns g c = spec.removed (sym c.is_moved.ensures ∙ c.if-is_moved.false) c.remove_part.ensures
