use Rattle.dcm_tree_laws.proofs.ManifestBy as manifest_by
use Rattle.dcm_tree_laws.proofs.RowsBy as rows
use Rattle.dcm_tree_laws.proofs.laws.one_row.Goals as goal

pub returns-clause-folder : goal.returns-clause-folder
returns-clause-folder g c = λ run path begun opened headed from before status left to after v stop. rows.one_row _ _ run path begun opened headed from before status left to after v stop

pub returns-clause-list : goal.returns-clause-list
returns-clause-list g c = λ run list begun input headed from before status left to after read v stop. rows.one_row_of_list _ _ run list begun input headed from before status left to after read v stop

pub returns-clause-run : goal.returns-clause-run
returns-clause-run g c = λ run source manifest from before status left to after does. manifest_by.one_row_of_run _ _ run source manifest from before status left to after does
