use Rattle.dcm_files.specs.Call.{made_folder}
use Rattle.dcm_files.proofs.host.HostFolders.make_folder.Given as goal

abbrev pub ghost-note : goal.ghost-note
ghost-note a = made_folder a._asked.now a._answered.now.0 a._answered.now.1.now
