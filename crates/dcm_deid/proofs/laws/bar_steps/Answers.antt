use Rattle.dcm_deid.proofs.Bars as bars
use Rattle.dcm_deid.proofs.laws.bar_steps.Goals as goal

pub returns : goal.returns
returns c = bars.bar_steps
