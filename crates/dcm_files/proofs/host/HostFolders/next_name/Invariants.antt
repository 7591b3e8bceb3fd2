use Rattle.dcm_files.specs.Call.{named}
use Rattle.dcm_files.specs.Folders.{name_given}
use Rattle.dcm_files.proofs.host.HostFolders.next_name.Given as goal

abbrev pub ghost-note : goal.ghost-note
ghost-note a = named (name_given a._asked.now a._answered.now)
