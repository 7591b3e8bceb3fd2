use Rattle.dcm_run_laws.proofs.ReadBack.ReadsAgain.{modified_reads}
use Rattle.dcm_run_laws.proofs.laws.modified_reads.Goals as goal

pub returns : goal.returns
returns c = modified_reads
