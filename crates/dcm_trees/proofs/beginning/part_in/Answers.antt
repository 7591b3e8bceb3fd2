use Rattle.std.proofs.Common.{refl, sym}
use Rattle.dcm_trees.specs.Beginning as spec
use Rattle.dcm_trees.proofs.beginning.part_in.Goals as goal

pub returns-in-Some : goal.returns-in-Some
returns-in-Some c = spec.fits c.in-Some.path (sym c.in-Some.ensures) refl

pub returns-in-None : goal.returns-in-None
returns-in-None c = spec.too_long (sym c.in-None.ensures) refl
