use Rattle.dcm_files.specs.Call.{held}
use Rattle.dcm_files.proofs.host.HostSystem.holds.Given as goal

abbrev pub ghost-note : goal.ghost-note
ghost-note a = held a._asked.now a._answered.now
