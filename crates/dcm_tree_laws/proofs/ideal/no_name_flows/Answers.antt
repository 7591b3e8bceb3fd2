use Rattle.dcm_tree_laws.proofs.IdealRun.Steps as proof
use Rattle.dcm_tree_laws.proofs.ideal.no_name_flows.Goals as goal

pub returns : goal.returns
returns c = record { names = λ continues before one other same. proof.no_name_flows continues before one other same }
