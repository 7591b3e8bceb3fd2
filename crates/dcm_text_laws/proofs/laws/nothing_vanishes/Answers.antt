use Rattle.dcm_text_laws.proofs.Vanishing.{nothing_vanishes}
use Rattle.dcm_text_laws.proofs.laws.nothing_vanishes.Goals as goal

pub returns : goal.returns
returns c = nothing_vanishes
