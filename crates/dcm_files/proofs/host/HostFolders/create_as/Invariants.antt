use Rattle.dcm_files.specs.Call.{made_as, kind_in}
use Rattle.dcm_files.proofs.host.HostFolders.create_as.Given as goal

abbrev pub ghost-note : goal.ghost-note
ghost-note a = made_as a._asked.now a._answered.now.0 (kind_in a._answered.now.1.now)
