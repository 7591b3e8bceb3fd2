use Rattle.std.proofs.Common.{ap}
use Rattle.dcm_uid.specs.Pseudonym.{pseudonym, pseudonym_of}
use Rattle.dcm_uid.proofs.Pseudonyms.{pseudonyms_none, pseudonyms_form, pseudonyms_by_code}
use Rattle.dcm_uid.proofs.laws.pseudonyms_agree.Goals as goal

pub returns-clause-agree : goal.returns-clause-agree
unfolding pseudonym
returns-clause-agree c = λ key one other e. ap (pseudonym_of key) e

pub returns-clause-none : goal.returns-clause-none
returns-clause-none c = pseudonyms_none

pub returns-clause-form : goal.returns-clause-form
returns-clause-form c = pseudonyms_form

pub returns-clause-by_code : goal.returns-clause-by_code
returns-clause-by_code c = pseudonyms_by_code
