use Rattle.std.proofs.Common.{refl}
use Rattle.dcm_trees.specs.Place as spec
use Rattle.dcm_trees.proofs.place.place_at.Goals as goal

pub returns-in-Missing : goal.returns-in-Missing
returns-in-Missing g c = spec.missing c.in-Missing.ensures refl

pub returns-in-Blocked : goal.returns-in-Blocked
returns-in-Blocked g c = spec.blocked c.in-Blocked.ensures refl

pub returns-in-Whole : goal.returns-in-Whole
returns-in-Whole g c = spec.at_its_end c.look-seen.result c.look_along.new.system c.in-Whole.ensures c.look-seen.ensures c.place_of.ensures
