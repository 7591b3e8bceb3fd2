use Rattle.dcm_files.specs.Call.{closing, closed}
use Rattle.dcm_files.proofs.host.HostSystem.close.Given as goal

abbrev pub ghost-note : goal.ghost-note
ghost-note a = closing a._answered.now.passed.bytes a._answered.now.failed

abbrev pub ghost-note-2 : goal.ghost-note-2
ghost-note-2 a = closed a._answered.now
