use Rattle.dcm_editor_laws.proofs.Readers.Hidden.{alike_hides, no_private_is_seen, none_is_seen}
use Rattle.dcm_editor_laws.proofs.laws.erased_for_all.Goals as goal

pub returns-clause-erased_all : goal.returns-clause-erased_all
returns-clause-erased_all c = none_is_seen

pub returns-clause-erased_private : goal.returns-clause-erased_private
returns-clause-erased_private c = no_private_is_seen

pub returns-clause-alike : goal.returns-clause-alike
returns-clause-alike c = λ s f e opens. alike_hides e s f opens
