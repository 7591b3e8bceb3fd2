use Rattle.std.proofs.Common.{refl, ap, Ok}
use Rattle.dcm_trees.specs.Instance as spec
use Rattle.dcm_trees.proofs.instance.do_by_instance.Goals as goal

pub returns-in_default : goal.returns-in_default
returns-in_default g c = spec.not_opened c.in_default.ensures c.tell_text.ensures (ap Ok c.without_name.ensures)

pub returns-in-Ok : goal.returns-in-Ok
returns-in-Ok g c = spec.filled c.in-Some.input c.in-Ok.output c.fill_by_instance.result c.open_file.new.system c.make_part.new.system c.in-Some.ensures c.in-Ok.ensures c.fill_by_instance.ensures refl

pub returns-in-Err : goal.returns-in-Err
returns-in-Err g c = spec.no_part c.in-Some.input c.in-Err.cause c.open_file.new.system c.make_part.new.system c.in-Some.ensures c.in-Err.ensures c.release.ensures c.end_without_part.ensures
