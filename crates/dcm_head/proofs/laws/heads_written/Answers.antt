use Rattle.dcm_head.proofs.Heads.Written.{head_spelled}
use Rattle.dcm_head.proofs.laws.heads_written.Goals as goal

pub returns : goal.returns
returns c = head_spelled
