use Rattle.std.proofs.Common.{ap, Ok}
use Rattle.dcm_trees.specs.File as spec
use Rattle.dcm_trees.specs.Task.{job_of_file}
use Rattle.dcm_trees.proofs.Jobs.{ready_by}
use Rattle.dcm_trees.proofs.file.do_free.Goals as goal

pub returns-in-Ok : goal.returns-in-Ok
returns-in-Ok g c = spec.has_job (job_of_file c.in-Ok.job) c.task_of_file.new.system c.in-Ok.ensures (ready_by _ _ c.job.ensures c.do_ready.ensures)

pub returns-in-Err : goal.returns-in-Err
returns-in-Err g c = spec.no_days c.in-Err.cause c.in-Err.ensures c.tell_no_days.ensures.line (ap Ok c.tell_no_days.ensures.fate)
