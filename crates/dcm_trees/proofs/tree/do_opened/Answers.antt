use Rattle.dcm_trees.proofs.Names.{begins_as}
use Rattle.dcm_trees.specs.Tree as spec
use Rattle.dcm_trees.proofs.tree.do_opened.Goals as goal

pub returns-in-Ok-clause-does : goal.returns-in-Ok-clause-does
returns-in-Ok-clause-does g c = spec.was_begun c.in-Ok.begun c.begin.new.errors c.begin.new.system (begins_as c.as_slice.ensures.value c.part_name-part.ensures c.spared_of.ensures c.in-Ok.ensures) c.visit_folder.ensures.visits

pub returns-in-Err-clause-does : goal.returns-in-Err-clause-does
returns-in-Err-clause-does g c = spec.not_begun c.in-Err.refusal c.begin.new.errors c.begin.new.system (begins_as c.as_slice.ensures.value c.part_name-part.ensures c.spared_of.ensures c.in-Err.ensures) c.close_folder.ensures c.refuse.ensures.refuses c.refuse.ensures.manifest
