use Rattle.dcm_sound.proofs.Converted as converted
use Rattle.dcm_sound.proofs.laws.converts_sound.Goals as goal

pub returns : goal.returns
returns c = λ d target bytes m coding set a h can y. converted.converts_sound d bytes m coding set h target a can y
