use Rattle.std.proofs.Common.{refl}
use Rattle.dcm_trees.specs.Tree as spec
use Rattle.dcm_trees.proofs.tree.visit_list.Goals as goal

pub returns-in-Ok-clause-visits : goal.returns-in-Ok-clause-visits
returns-in-Ok-clause-visits g c = spec.visited c.put_first_row.new.manifest c.in-Ok.ensures c.visit_listed.ensures.visits

pub returns-in-Err-clause-visits : goal.returns-in-Err-clause-visits
returns-in-Err-clause-visits g c = spec.no_header c.in-Err.field-0 c.in-Err.ensures c.end_unwritten.ensures.ends refl refl
