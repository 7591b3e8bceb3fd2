use Rattle.dcm_deid.proofs.Research.{get_pseudonyms, others_same, said_goes, stays_is_moved}
use Rattle.dcm_deid.proofs.laws.fates_of_research.Goals as goal

pub returns-clause-pseudonyms : goal.returns-clause-pseudonyms
returns-clause-pseudonyms c = get_pseudonyms

pub returns-clause-moved : goal.returns-clause-moved
returns-clause-moved c = stays_is_moved

pub returns-clause-others : goal.returns-clause-others
returns-clause-others c = others_same

pub returns-clause-said : goal.returns-clause-said
returns-clause-said c = said_goes
