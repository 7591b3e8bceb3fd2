use Rattle.dcm_conversion_laws.proofs.EditWords as words
use Rattle.dcm_conversion_laws.proofs.Jobs as jobs
use Rattle.dcm_conversion_laws.proofs.Readings as readings
use Rattle.dcm_conversion_laws.proofs.laws.dictionaries_agree.Goals as goal

pub returns : goal.returns
returns c = record { readings = readings.readings_agree; ascending = readings.ascending_agree; converters = jobs.converters_agree; dumps = jobs.dumps_agree; edits = words.words_agree; modifiers = jobs.modifiers_agree }
