use Rattle.dcm_value.proofs.ReadBack.Values.{reads_back}
use Rattle.dcm_value.proofs.laws.value_reads_back.Goals as goal

pub returns : goal.returns
returns c = reads_back
