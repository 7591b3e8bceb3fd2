use Rattle.dcm_uid.proofs.Pseudonyms.{days_by_code, days_past, days_within}
use Rattle.dcm_uid.proofs.laws.one_patient_one_move.Goals as goal

pub returns-clause-by_code : goal.returns-clause-by_code
returns-clause-by_code c = days_by_code

pub returns-clause-past : goal.returns-clause-past
returns-clause-past c = days_past

pub returns-clause-within : goal.returns-clause-within
returns-clause-within c = days_within
