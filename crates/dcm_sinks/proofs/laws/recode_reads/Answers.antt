use Rattle.dcm_sinks.proofs.ReadBack.RecodeReads.{recode_reads}
use Rattle.dcm_sinks.proofs.laws.recode_reads.Goals as goal

pub returns : goal.returns
returns c = recode_reads
