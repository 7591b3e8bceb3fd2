use Rattle.std.proofs.Common.{ap}
use Rattle.dcm_tree_words.specs.Plans.{source_as}
use Rattle.dcm_trees.specs.Tree as spec
use Rattle.dcm_trees.proofs.tree.do_tree.Goals as goal

pub returns-in-Folder-clause-does : goal.returns-in-Folder-clause-does
returns-in-Folder-clause-does g c = spec.of_folder c.in-Folder.path.now (ap source_as c.in-Folder.is) c.do_folder.ensures.does

pub returns-in-List-clause-does : goal.returns-in-List-clause-does
returns-in-List-clause-does g c = spec.of_list c.in-List.list.now (ap source_as c.in-List.is) c.do_list.ensures.does
