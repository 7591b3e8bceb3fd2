use Rattle.dcm_files.specs.Call.{released}
use Rattle.dcm_files.proofs.host.HostSystem.release.Given as goal

abbrev pub ghost-note : goal.ghost-note
ghost-note a = released a._answered.now.passed.bytes a._answered.now.failed
