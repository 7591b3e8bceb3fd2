use Rattle.dcm_deid.proofs.Trees.Again.{nothing_flows}
use Rattle.dcm_deid.proofs.laws.nothing_flows.Goals as goal

pub returns : goal.returns
returns c = nothing_flows
