use Rattle.dcm_files.specs.Call.{removed}
use Rattle.dcm_files.proofs.host.HostSystem.remove.Given as goal

abbrev pub ghost-note : goal.ghost-note
ghost-note a = removed a._asked.now a._answered.now
