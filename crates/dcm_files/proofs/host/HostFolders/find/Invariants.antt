use Rattle.dcm_files.specs.Call.{found}
use Rattle.dcm_files.proofs.host.HostFolders.find.Given as goal

abbrev pub ghost-note : goal.ghost-note
ghost-note a = found a._asked.now a._answered.now.0 a._answered.now.1.now
