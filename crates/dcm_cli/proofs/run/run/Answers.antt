use Rattle.dcm_cli.proofs.Runs.Finished.{runs_of}
use Rattle.dcm_cli.proofs.run.run.Goals as goal

pub returns : goal.returns
returns g c = runs_of _ _ c.args.job.now _ _ _ _ _ c.finish-ended.result _ c.finish-ended.ensures c.tell_ended.ensures.lines c.tell_ended.ensures.status
