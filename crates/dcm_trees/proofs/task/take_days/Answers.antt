use Rattle.std.proofs.Common.{refl, subst}
use Rattle.dcm_trees.specs.Task as spec
use Rattle.dcm_trees.proofs.Jobs.{first_of}
use Rattle.dcm_trees.proofs.task.take_days.Goals as goal

pub returns-in_default : goal.returns-in_default
returns-in_default g c = spec.not_opened c.in_default.ensures refl

pub returns : goal.returns
returns g c =
    spec.was_read c.in-Some.input c.first_reading-end.new.input c.open_file.new.system c.first_reading-end.result c.in-Some.ensures (first_of _ _ c.new-input.ensures c.first_reading-end.ensures)
    (subst (λ (input : _). g.S.System.may_do.releases c.open_file.new.system input c.release.new.self) c.into_device.ensures c.release.ensures) c.days_of.ensures
