use Rattle.dcm_files.specs.Call.{seized}
use Rattle.dcm_files.proofs.host.HostSystem.seize.Given as goal

abbrev pub ghost-note : goal.ghost-note
ghost-note a = seized a._asked.now a._answered.now
