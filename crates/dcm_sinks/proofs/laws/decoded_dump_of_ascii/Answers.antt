use Rattle.dcm_sinks.proofs.DecodedDumps.PlainTexts.{front_of_ascii, front_of_low}
use Rattle.dcm_sinks.proofs.laws.decoded_dump_of_ascii.Goals as goal

pub returns-clause-by_sets : goal.returns-clause-by_sets
returns-clause-by_sets c = front_of_ascii

pub returns-clause-without_esc : goal.returns-clause-without_esc
returns-clause-without_esc c = front_of_low
