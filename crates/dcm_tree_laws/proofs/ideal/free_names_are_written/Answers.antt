use Rattle.dcm_tree_laws.proofs.IdealRun.Done as done
use Rattle.dcm_tree_laws.proofs.ideal.free_names_are_written.Goals as goal

pub returns-clause-free : goal.returns-clause-free
returns-clause-free c = λ continues outputs comes relative may at. done.free_is_written continues outputs comes relative may at

pub returns-clause-made : goal.returns-clause-made
returns-clause-made c = λ continues outputs comes relative output wrote. done.written_is_made continues outputs comes relative output wrote
