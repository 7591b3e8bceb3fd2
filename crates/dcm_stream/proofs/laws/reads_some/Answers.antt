use Rattle.dcm_stream.proofs.Steps.ReadsSome.{plain, in_order, native}
use Rattle.dcm_stream.proofs.laws.reads_some.Goals as goal

pub returns-clause-plain : goal.returns-clause-plain
returns-clause-plain c = plain

pub returns-clause-in_order : goal.returns-clause-in_order
returns-clause-in_order c = in_order

pub returns-clause-native : goal.returns-clause-native
returns-clause-native c = native
