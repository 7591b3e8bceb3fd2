use Rattle.dcm_cli.proofs.Runs.Obeying.{identity_job, other_job}
use Rattle.dcm_cli.proofs.program.work_on.Goals as goal

pub returns-in-Deidentify-clause-works : goal.returns-in-Deidentify-clause-works
returns-in-Deidentify-clause-works g c = identity_job _ _ _ _ _ _ _ _ c.args.planned.now.job c.in-Deidentify.what c.in-Deidentify.is c.deidentify.ensures.works

pub returns-in_default-clause-works : goal.returns-in_default-clause-works
returns-in_default-clause-works g c = other_job _ _ _ _ _ _ _ _ c.args.planned.now.job c.in_default.not-Deidentify c.work.ensures.works
