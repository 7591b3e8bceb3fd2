use Rattle.dcm_files.specs.Call.{gave_input}
use Rattle.dcm_files.proofs.host.HostSystem.stdin.Given as goal

abbrev pub ghost-note : goal.ghost-note
ghost-note a = gave_input a._answered.now.kind
