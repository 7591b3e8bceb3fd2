use Rattle.dcm_files.specs.Call.{gave_mode}
use Rattle.dcm_files.proofs.host.HostFolders.mode_in.Given as goal

abbrev pub ghost-note : goal.ghost-note
ghost-note a = gave_mode a._asked.now a._answered.now.0.now a._answered.now.1.now
