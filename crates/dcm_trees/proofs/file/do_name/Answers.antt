use Rattle.dcm_trees.specs.File as spec
use Rattle.dcm_trees.proofs.file.do_name.Goals as goal

pub returns-in-File : goal.returns-in-File
returns-in-File g c = spec.a_file c.in-File.mode c.in-File.is c.do_file.ensures
