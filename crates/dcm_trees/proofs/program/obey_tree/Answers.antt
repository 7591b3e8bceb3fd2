use Rattle.std.proofs.Common.{refl}
use Rattle.dcm_trees.specs.Program as spec
use Rattle.dcm_trees.proofs.program.obey_tree.Goals as goal

pub returns-in-Ok-clause-obeys : goal.returns-in-Ok-clause-obeys
returns-in-Ok-clause-obeys g c = c.obey_one.ensures.obeys

pub returns-in-Err-clause-obeys : goal.returns-in-Err-clause-obeys
returns-in-Err-clause-obeys g c = spec.no_memory c.tell.ensures.line c.tell.ensures.status refl
