use Rattle.dcm_deid.proofs.Trees.Said.{nothing_flows_out}
use Rattle.dcm_deid.proofs.laws.nothing_flows_out.Goals as goal

pub returns : goal.returns
returns c = nothing_flows_out
