use Rattle.std.proofs.Common.{refl}
use Rattle.dcm_trees.specs.Instance as spec
use Rattle.dcm_trees.proofs.instance.is_same_file.Goals as goal

pub returns-in_default : goal.returns-in_default
returns-in_default g c = spec.no_first c.in_default.ensures refl

pub returns-in-Some-open_file : goal.returns-in-Some-open_file
returns-in-Some-open_file g c = spec.both c.in-Some.one c.in-Some-open_file.other c.open_file.new.system c.open_file-2.new.system c.in-Some.ensures c.in-Some-open_file.ensures c.compare.ensures

pub returns-in-None : goal.returns-in-None
returns-in-None g c = spec.no_second c.in-Some.one c.open_file.new.system c.open_file-2.new.system c.in-Some.ensures c.in-None.ensures c.release.ensures refl
