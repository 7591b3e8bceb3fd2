use Rattle.std.proofs.Common.{rules}
use Rattle.dcm_trees.specs.Place as spec
use Rattle.dcm_trees.proofs.place.is_folder.Goals as goal

pub returns : goal.returns
returns g c = spec.by_looking c.look-seen.result c.look-seen.ensures (search rules)
