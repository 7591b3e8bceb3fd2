use Rattle.dcm_files.specs.Call.{linked}
use Rattle.dcm_files.proofs.host.HostFolders.link.Given as goal

abbrev pub ghost-note : goal.ghost-note
ghost-note a = linked a._asked.now a._answered.now.0.now a._answered.now.1.now
