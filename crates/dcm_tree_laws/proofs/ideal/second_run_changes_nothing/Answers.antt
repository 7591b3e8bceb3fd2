use Rattle.dcm_tree_laws.proofs.IdealRun.Done as done
use Rattle.dcm_tree_laws.proofs.IdealRun.Second as second
use Rattle.dcm_tree_laws.proofs.ideal.second_run_changes_nothing.Goals as goal

pub returns-clause-second : goal.returns-clause-second
returns-clause-second c = λ before names leaves. second.second_is_first before names leaves

pub returns-clause-new : goal.returns-clause-new
returns-clause-new c = λ before names none apart. done.new_is_continued before names none apart
