use Rattle.dcm_files.specs.Call.{looked}
use Rattle.dcm_files.proofs.host.HostSystem.kind_at.Given as goal

abbrev pub ghost-note : goal.ghost-note
ghost-note a = looked a._asked.now a._answered.now
