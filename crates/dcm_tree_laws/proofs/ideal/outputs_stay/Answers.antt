use Rattle.dcm_tree_laws.proofs.IdealRun.Steps as steps
use Rattle.dcm_tree_laws.proofs.ideal.outputs_stay.Goals as goal

pub returns-clause-stay : goal.returns-clause-stay
returns-clause-stay c = λ continues before names. steps.run_keeps continues before names

pub returns-clause-written : goal.returns-clause-written
returns-clause-written c = λ continues before names. steps.written_is_there continues before names
