use Rattle.dcm_tree_laws.proofs.IdealRun.Steps as proof
use Rattle.dcm_tree_laws.proofs.ideal.one_row.Goals as goal

pub returns : goal.returns
returns c = record { row = λ continues before names. proof.one_row continues before names }
