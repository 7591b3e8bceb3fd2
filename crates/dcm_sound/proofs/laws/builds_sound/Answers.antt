use Rattle.dcm_sound.proofs.Built as built
use Rattle.dcm_sound.proofs.laws.builds_sound.Goals as goal

pub returns : goal.returns
returns c = λ d limit bytes m coding set a h are group_units units ascends le fits y. built.builds_sound d bytes m coding set h limit a are group_units units ascends le fits y
