use Rattle.dcm_trees.specs.Tree as spec
use Rattle.dcm_trees.proofs.tree.do_folder.Goals as goal

pub returns-in-Some-clause-does : goal.returns-in-Some-clause-does
returns-in-Some-clause-does g c = spec.was_opened c.in-Some.folder c.open_tree.new.system c.in-Some.ensures c.do_opened.ensures.does

pub returns-in-None-clause-does : goal.returns-in-None-clause-does
returns-in-None-clause-does g c = spec.not_opened c.in-None.ensures c.refuse-in-None.ensures.refuses c.refuse-in-None.ensures.manifest
