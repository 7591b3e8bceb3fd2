use Rattle.dcm_files.specs.Call.{opened_folder, whether}
use Rattle.dcm_files.proofs.host.HostFolders.open_folder.Given as goal

abbrev pub ghost-note : goal.ghost-note
ghost-note a = opened_folder a._asked.now (whether a._answered.now)
