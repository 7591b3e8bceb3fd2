use Rattle.std.proofs.Common.{sym, ◌∙◌}
use Rattle.dcm_trees.specs.Instance as spec
use Rattle.dcm_trees.proofs.instance.is_copy.Goals as goal

pub returns-then-is_there : goal.returns-then-is_there
returns-then-is_there g c = spec.compared (sym c.is_there.ensures ∙ c.if-is_there.true) c.is_same_file.ensures
