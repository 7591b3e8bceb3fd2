use Rattle.dcm_sound.proofs.Edited as edited
use Rattle.dcm_sound.proofs.laws.edits_sound.Goals as goal

pub returns : goal.returns
returns c = λ d edits bytes m coding set a h ascends y. edited.edits_sound d bytes m coding set h ascends edits a y
