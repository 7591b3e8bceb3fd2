use Rattle.dcm_trees.proofs.Jobs.{identity_run, other_run}
use Rattle.dcm_trees.proofs.program.run_plan.Goals as goal

pub returns-in-Deidentify-clause-runs : goal.returns-in-Deidentify-clause-runs
returns-in-Deidentify-clause-runs g c = identity_run c.args.plan.now.planned.job c.in-Deidentify.what c.in-Deidentify.is c.run_deidentify.ensures.runs

pub returns-in_default-clause-runs : goal.returns-in_default-clause-runs
returns-in_default-clause-runs g c = other_run c.args.plan.now.planned.job c.in_default.not-Deidentify c.run_task.ensures.runs
