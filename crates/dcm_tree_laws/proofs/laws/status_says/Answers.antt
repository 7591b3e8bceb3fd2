use Rattle.dcm_tree_laws.proofs.Statuses.Says as says
use Rattle.dcm_tree_laws.proofs.laws.status_says.Goals as goal

pub returns-clause-folder : goal.returns-clause-folder
returns-clause-folder g c = λ run path begun opened headed from before status left to after v. says.status_says _ _ run path begun opened headed from before status left to after v

pub returns-clause-list : goal.returns-clause-list
returns-clause-list g c = λ run list begun input headed from before status left to after read v. says.status_says_of_list _ _ run list begun input headed from before status left to after read v
