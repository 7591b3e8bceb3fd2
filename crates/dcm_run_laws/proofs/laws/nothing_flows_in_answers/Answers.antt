use Rattle.dcm_run_laws.proofs.Runs.NothingFlows.{nothing_flows_in_answers}
use Rattle.dcm_run_laws.proofs.laws.nothing_flows_in_answers.Goals as goal

pub returns : goal.returns
returns c = nothing_flows_in_answers
