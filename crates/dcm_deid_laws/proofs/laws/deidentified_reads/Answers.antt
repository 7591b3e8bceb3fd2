use Rattle.dcm_deid_laws.proofs.ReadsAgain as again
use Rattle.dcm_deid_laws.proofs.laws.deidentified_reads.Goals as goal

pub returns-clause-by_each : goal.returns-clause-by_each
returns-clause-by_each c = λ options key s at f e h. again.deidentified_reads options key s at f h e

pub returns-clause-for_dcmdeid : goal.returns-clause-for_dcmdeid
returns-clause-for_dcmdeid c = again.reads_for_it
