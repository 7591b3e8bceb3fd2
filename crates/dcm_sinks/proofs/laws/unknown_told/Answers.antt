use Rattle.dcm_sinks.proofs.DecodedDumps.UnknownTold as shown
use Rattle.dcm_sinks.proofs.DecodedDumps.Reads.{unknown_whole, unknown_so_far}
use Rattle.dcm_sinks.proofs.laws.unknown_told.Goals as goal

pub returns-clause-shown : goal.returns-clause-shown
returns-clause-shown c = shown.unknown_told

pub returns-clause-whole : goal.returns-clause-whole
returns-clause-whole c = unknown_whole

pub returns-clause-so_far : goal.returns-clause-so_far
returns-clause-so_far c = unknown_so_far
