use Rattle.std.proofs.Common.{rules, refl}
use Rattle.dcm_trees.specs.Beginning as spec
use Rattle.dcm_trees.proofs.beginning.make_output.Goals as goal

pub returns-in_default : goal.returns-in_default
returns-in_default g c = spec.no_mode c.in_default.field-0 c.in_default.ensures refl

pub returns-in_err-make_folder : goal.returns-in_err-make_folder
returns-in_err-make_folder g c = spec.not_made c.in-Ok.mode _ c.new_mode.new.system c.in-Ok.ensures c.in_err-make_folder.ensures (search rules)

pub returns : goal.returns
returns g c = spec.made c.in-Ok.mode c.new_mode.new.system c.make_folder.new.system c.in-Ok.ensures c.in_ok-make_folder.ensures c.folder_at.ensures
