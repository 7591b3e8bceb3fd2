use Rattle.dcm_sound.proofs.Done as done
use Rattle.dcm_sound.proofs.laws.done_is_sound.Goals as goal

pub returns : goal.returns
returns c = λ d mode bytes a are y status. done.done_is_sound d mode bytes a are y status
