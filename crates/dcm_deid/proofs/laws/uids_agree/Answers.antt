use Rattle.dcm_deid.proofs.Trees.Instances as instances
use Rattle.dcm_deid.proofs.laws.uids_agree.Goals as goal

pub returns-clause-by_key : goal.returns-clause-by_key
returns-clause-by_key c = instances.new_by_key

pub returns-clause-in_head : goal.returns-clause-in_head
returns-clause-in_head c = instances.heads_by

pub returns-clause-in_set : goal.returns-clause-in_set
returns-clause-in_set c = instances.sets_by

pub returns-clause-agree : goal.returns-clause-agree
returns-clause-agree c = instances.uids_agree
