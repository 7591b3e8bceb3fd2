use Rattle.dcm_tree_laws.proofs.SharesBy as shares
use Rattle.dcm_tree_laws.proofs.laws.names_are_shared.Goals as goal

pub returns-clause-share : goal.returns-clause-share
returns-clause-share c = λ count relative some. shares.one_share count relative some

pub returns-clause-rows : goal.returns-clause-rows
returns-clause-rows c = λ became count visits some. shares.rows_of_all became count visits some

pub returns-clause-manifest : goal.returns-clause-manifest
returns-clause-manifest c = λ became shared visits text rows. shares.manifest_of_share became shared visits text rows

pub returns-clause-output : goal.returns-clause-output
returns-clause-output c = λ task bytes one other a b. shares.one_output task bytes one other a b
