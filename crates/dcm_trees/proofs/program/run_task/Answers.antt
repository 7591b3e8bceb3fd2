use Rattle.std.proofs.Common.{refl, subst}
use Rattle.dcm_trees.proofs.Names.{tree_of}
use Rattle.dcm_trees.specs.Program as spec
use Rattle.dcm_trees.proofs.program.run_task.Goals as goal

pub returns-in-Err-clause-runs : goal.returns-in-Err-clause-runs
returns-in-Err-clause-runs g c = spec.no_stdout c.in-Err.e c.unopened.result c.in-Err.ensures c.unopened.ensures c.tell_unopened.ensures.line c.tell_unopened.ensures.status

pub returns-clause-runs : goal.returns-clause-runs
returns-clause-runs g c = spec.has_run c.in-Ok.output _ c.do_tree-status.result.1 c.stdout.new.self c.do_tree-status.new.system c.in-Ok.ensures (record { task_is = refl; key_is = refl; output = refl; options = refl; modes = c.modes_of.ensures })
    (tree_of c.new-manifest.ensures c.do_tree-status.ensures.does)
    (record { answer = c.close.result; call = subst (λ (output : _). g.S.System.may_do.closes c.do_tree-status.new.system output c.close.result c.close.new.self) c.into_device.ensures c.close.ensures })
