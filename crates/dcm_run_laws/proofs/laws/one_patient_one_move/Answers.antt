use Rattle.dcm_run_laws.proofs.Patient.Outermost.{days_of_outermost}
use Rattle.dcm_run_laws.proofs.Runs.FirstLaws.{days_of_patient, has_days, one_move, moves_back}
use Rattle.dcm_run_laws.proofs.laws.one_patient_one_move.Goals as goal

pub returns-clause-of_patient : goal.returns-clause-of_patient
returns-clause-of_patient c = days_of_patient

pub returns-clause-of_outermost : goal.returns-clause-of_outermost
returns-clause-of_outermost c = days_of_outermost

pub returns-clause-has_days : goal.returns-clause-has_days
returns-clause-has_days c = has_days

pub returns-clause-one : goal.returns-clause-one
returns-clause-one c = one_move

pub returns-clause-back : goal.returns-clause-back
returns-clause-back c = moves_back
