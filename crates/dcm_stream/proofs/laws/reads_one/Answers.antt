use Rattle.dcm_base.proofs.DataSets.OneAnswer.{reads_once}
use Rattle.dcm_head.proofs.MetaGroups.OneMeta.{one_meta}
use Rattle.dcm_stream.proofs.laws.reads_one.Goals as goal

pub returns-clause-head : goal.returns-clause-head
returns-clause-head c = one_meta

pub returns-clause-set : goal.returns-clause-set
returns-clause-set c = reads_once
