use Rattle.dcm_tree_laws.proofs.IdealRun.Steps as proof
use Rattle.dcm_tree_laws.proofs.ideal.outputs_are_distinct.Goals as goal

pub returns : goal.returns
returns c = record { distinct = λ continues before names. proof.distinct continues before names }
