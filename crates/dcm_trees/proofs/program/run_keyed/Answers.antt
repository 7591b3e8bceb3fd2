use Rattle.std.proofs.Common.{sym, ap, Bool}
use Rattle.dcm_trees.specs.Program as spec
use Rattle.dcm_trees.proofs.Jobs.{task_by}
use Rattle.dcm_trees.proofs.program.run_keyed.Goals as goal

pub returns-then-plan-clause-runs : goal.returns-then-plan-clause-runs
returns-then-plan-clause-runs g c = task_by _ _ (ap (λ (b : Bool). spec.keyed_task b c.args.what.options c.args.what.reports c.args.what.key.items) (sym c.if-plan.true)) c.run_task.ensures.runs

pub returns-clause-runs : goal.returns-clause-runs
returns-clause-runs g c = task_by _ _ (ap (λ (b : Bool). spec.keyed_task b c.args.what.options c.args.what.reports c.args.what.key.items) (sym c.if-plan.false)) c.run_task-2.ensures.runs
