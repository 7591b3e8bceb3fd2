use Rattle.dcm_sinks.proofs.ReadBack.NewMetaReads.{any, own}
use Rattle.dcm_sinks.proofs.laws.new_meta_reads.Goals as goal

pub returns-clause-any : goal.returns-clause-any
returns-clause-any c = any

pub returns-clause-own : goal.returns-clause-own
returns-clause-own c = own
