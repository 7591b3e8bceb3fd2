use Rattle.dcm_files.specs.Call.{gave_words}
use Rattle.dcm_files.specs.Devices.{words_given}
use Rattle.dcm_files.proofs.host.HostSystem.words.Given as goal

abbrev pub ghost-note : goal.ghost-note
ghost-note a = gave_words (words_given a._answered.now)
