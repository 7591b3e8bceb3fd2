use Rattle.dcm_files.specs.Call.{created, kind_in}
use Rattle.dcm_files.proofs.host.HostSystem.create.Given as goal

abbrev pub ghost-note : goal.ghost-note
ghost-note a = created a._asked.now (kind_in a._answered.now)
