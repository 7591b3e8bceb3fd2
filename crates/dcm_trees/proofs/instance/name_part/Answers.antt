use Rattle.std.proofs.Common.{ap, ◌∙◌}
use Rattle.dcm_trees.specs.Instance as spec
use Rattle.dcm_trees.specs.Instance.{without_name}
use Rattle.dcm_trees.proofs.instance.name_part.Goals as goal

pub returns-in-Ok : goal.returns-in-Ok
returns-in-Ok g c = spec.has_instance c.in-Ok.instance c.instance_in.new.system c.in-Ok.ensures c.name_by.ensures

pub returns-in-Err : goal.returns-in-Err
returns-in-Err g c =
    spec.no_instance c.in-Err.cause c.instance_in.new.system c.in-Err.ensures c.remove_part.ensures c.tell_no_instance.ensures.line (c.without_name.ensures ∙ ap without_name c.tell_no_instance.ensures.fate)
