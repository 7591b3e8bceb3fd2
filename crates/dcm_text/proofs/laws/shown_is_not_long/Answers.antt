use Rattle.dcm_text.proofs.ShownSizes.{dump_sized}
use Rattle.dcm_text.proofs.laws.shown_is_not_long.Goals as goal

pub returns : goal.returns
returns c = dump_sized
