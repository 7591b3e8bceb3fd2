use Rattle.dcm_files.specs.Call.{moved}
use Rattle.dcm_files.proofs.host.HostSystem.rename.Given as goal

abbrev pub ghost-note : goal.ghost-note
ghost-note a = moved a._asked.now a._answered.now.0.now a._answered.now.1.now
