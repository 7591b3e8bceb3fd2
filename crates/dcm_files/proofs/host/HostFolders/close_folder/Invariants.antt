use Rattle.dcm_files.specs.Call.{closed_folder}
use Rattle.dcm_files.proofs.host.HostFolders.close_folder.Given as goal

abbrev pub ghost-note : goal.ghost-note
ghost-note a = closed_folder
