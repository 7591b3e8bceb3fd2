use Rattle.std.proofs.Common.{ap, refl, sym, subst}
use Rattle.dcm_trees.specs.declared.task.Task.{Task as Given}
use Rattle.dcm_trees.specs.Task as spec
use Rattle.dcm_trees.specs.Task.{task_of}
use Rattle.dcm_cli.proofs.Passes.Readers.{members}
use Rattle.dcm_trees.proofs.task.task_of_file.Goals as goal

pub returns-in-Same : goal.returns-in-Same
returns-in-Same g c = spec.of_all _ (ap task_of c.in-Same.is) refl refl

pub returns-in-ByDays : goal.returns-in-ByDays
returns-in-ByDays g c =
    subst (λ (task : Given). spec.FindsJob g.S.System.may_do (members g.S.Input.Device g.S.Input.DeviceIn) (task_of task) c.args.path.now c.args.system.now (spec.found c.job_by_days.result) c.job_by_days.new.system) (sym c.in-ByDays.is) c.job_by_days.ensures
