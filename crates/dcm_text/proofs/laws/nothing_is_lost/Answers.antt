use Rattle.dcm_text.proofs.Whole.{all_bytes}
use Rattle.dcm_text.proofs.laws.nothing_is_lost.Goals as goal

pub returns : goal.returns
returns c = all_bytes
