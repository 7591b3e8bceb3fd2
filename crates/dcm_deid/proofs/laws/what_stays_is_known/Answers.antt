use Rattle.dcm_deid.proofs.Trees.Known.{known, transparent}
use Rattle.dcm_deid.proofs.laws.what_stays_is_known.Goals as goal

pub returns-clause-known : goal.returns-clause-known
returns-clause-known c = known

pub returns-clause-looked_into : goal.returns-clause-looked_into
returns-clause-looked_into c = transparent
