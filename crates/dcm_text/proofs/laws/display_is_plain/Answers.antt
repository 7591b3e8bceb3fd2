use Rattle.dcm_text.proofs.Displayed.{dump_stands}
use Rattle.dcm_text.proofs.laws.display_is_plain.Goals as goal

pub returns : goal.returns
returns c = dump_stands
