use Rattle.std.proofs.Common.{refl, subst}
use Rattle.dcm_trees.specs.Instance as spec
use Rattle.dcm_trees.proofs.Jobs.{instance_of}
use Rattle.dcm_trees.proofs.instance.instance_in.Goals as goal

pub returns-in_default : goal.returns-in_default
returns-in_default g c = spec.not_opened c.in_default.ensures refl

pub returns : goal.returns
returns g c =
    spec.was_read c.in-Some.input c.read_instance-instance.new.input c.open_file.new.system c.in-Some.ensures (instance_of _ _ c.new-input.ensures c.read_instance-instance.ensures)
    (subst (λ (input : _). g.S.System.may_do.releases c.open_file.new.system input c.release.new.self) c.into_device.ensures c.release.ensures)
