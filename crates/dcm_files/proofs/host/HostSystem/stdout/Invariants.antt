use Rattle.dcm_files.specs.Call.{gave_output, kind_in}
use Rattle.dcm_files.proofs.host.HostSystem.stdout.Given as goal

abbrev pub ghost-note : goal.ghost-note
ghost-note a = gave_output (kind_in a._answered.now)
