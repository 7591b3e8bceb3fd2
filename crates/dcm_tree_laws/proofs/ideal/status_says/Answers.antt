use Rattle.dcm_tree_laws.proofs.IdealRun.Done as proof
use Rattle.dcm_tree_laws.proofs.ideal.status_says.Goals as goal

pub returns : goal.returns
returns c = record { status = λ continues before earlier later n is. proof.status_says continues before earlier later n is }
