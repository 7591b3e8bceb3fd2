use Rattle.dcm_text.proofs.OneToOne.{same_byte}
use Rattle.dcm_text.proofs.laws.one_to_one.Goals as goal

pub returns : goal.returns
returns c = same_byte
