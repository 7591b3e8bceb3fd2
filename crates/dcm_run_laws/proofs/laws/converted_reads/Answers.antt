use Rattle.dcm_run_laws.proofs.ReadBack.ReadsAgain.{converted_reads}
use Rattle.dcm_run_laws.proofs.laws.converted_reads.Goals as goal

pub returns : goal.returns
returns c = converted_reads
