use Rattle.std.proofs.Common.{refl, subst}
use Rattle.std.proofs.Common.{map}
use Rattle.dcm_tree_words.specs.Trees.{meant_tree}
use Rattle.dcm_tree_words.specs.Plans.{tree_as, GivesTreeUnlessMemory}
use Rattle.dcm_trees.proofs.Names.{refused_of}
use Rattle.dcm_trees.specs.Program as spec
use Rattle.dcm_trees.proofs.program.obey_one.Goals as goal

pub returns-in-Ok-clause-obeys : goal.returns-in-Ok-clause-obeys
returns-in-Ok-clause-obeys g c = spec.meant (tree_as c.in-Ok.plan) c.in-Ok.ensures.meant c.run_plan.ensures.runs

pub returns-in-Err-clause-obeys : goal.returns-in-Err-clause-obeys
returns-in-Err-clause-obeys g c = refused_of c.in-Err.usage (subst (λ r. GivesTreeUnlessMemory r (meant_tree (map (λ w. w.now) c.args.words.now))) c.in-Err.is c.tree_plan.ensures.meant) c.tell.ensures.line c.tell.ensures.status refl
