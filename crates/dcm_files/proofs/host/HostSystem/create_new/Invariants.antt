use Rattle.dcm_files.specs.Call.{made, kind_in}
use Rattle.dcm_files.proofs.host.HostSystem.create_new.Given as goal

abbrev pub ghost-note : goal.ghost-note
ghost-note a = made a._asked.now (kind_in a._answered.now)
