use Rattle.dcm_tree_laws.proofs.IdealRun.SharesOne as proof
use Rattle.dcm_tree_laws.proofs.ideal.shares_are_one_run.Goals as goal

pub returns : goal.returns
returns c = record { shares = λ continues before names count numbers some all beside. proof.shares_are_one continues before names count numbers some all beside }
