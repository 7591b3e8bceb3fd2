use Rattle.dcm_files.specs.Call.{opened, kind_in}
use Rattle.dcm_files.proofs.host.HostSystem.open.Given as goal

abbrev pub ghost-note : goal.ghost-note
ghost-note a = opened a._asked.now (kind_in a._answered.now)
