use Rattle.dcm_run_laws.proofs.ReadBack.DeidentifiedReads as again
use Rattle.dcm_run_laws.proofs.laws.deidentified_reads.Goals as goal

pub returns : goal.returns
returns c = λ options reports key input a m coding f e h. again.deidentified_reads options reports key input a m coding f h e
