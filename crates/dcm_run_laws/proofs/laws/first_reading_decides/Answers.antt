use Rattle.dcm_run_laws.proofs.Patient.Decided.{first_decides}
use Rattle.dcm_run_laws.proofs.Runs.SureFirst.{first_stays}
use Rattle.dcm_run_laws.proofs.laws.first_reading_decides.Goals as goal

pub returns-clause-stays : goal.returns-clause-stays
returns-clause-stays c = first_stays

pub returns-clause-decides : goal.returns-clause-decides
returns-clause-decides c = first_decides
