use Rattle.dcm_files.specs.Call.{kept_mode}
use Rattle.dcm_files.proofs.host.HostSystem.keep_mode.Given as goal

abbrev pub ghost-note : goal.ghost-note
ghost-note a = kept_mode a._asked.now a._answered.now.0.now a._answered.now.1.now
