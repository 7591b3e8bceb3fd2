use Rattle.dcm_sinks.proofs.ReadBack.RecodeReads.{recode_twice}
use Rattle.dcm_sinks.proofs.laws.recode_twice.Goals as goal

pub returns : goal.returns
returns c = recode_twice
