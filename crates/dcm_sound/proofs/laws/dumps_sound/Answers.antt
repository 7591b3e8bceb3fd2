use Rattle.dcm_sound.proofs.Dumped as dumped
use Rattle.dcm_sound.proofs.laws.dumps_sound.Goals as goal

pub returns-clause-file : goal.returns-clause-file
returns-clause-file c = λ d mode bytes m coding set a h y. dumped.dumps_sound d bytes m coding set h mode a y

pub returns-clause-alone : goal.returns-clause-alone
returns-clause-alone c = λ d mode syntax bytes set a at is_set within y. dumped.dumps_set_alone d mode syntax bytes set a at is_set within y
