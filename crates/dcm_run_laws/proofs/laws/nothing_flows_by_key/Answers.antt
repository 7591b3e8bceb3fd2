use Rattle.dcm_run_laws.proofs.Runs.FirstLaws.{nothing_flows_by_key}
use Rattle.dcm_run_laws.proofs.laws.nothing_flows_by_key.Goals as goal

pub returns : goal.returns
returns c = nothing_flows_by_key
