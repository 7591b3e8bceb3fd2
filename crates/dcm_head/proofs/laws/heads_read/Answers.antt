use Rattle.dcm_head.specs.declared.head.HeadRead.TheVariants.{Done, More, BadVr}
use Rattle.dcm_head.proofs.Heads.Laws.{begins_read, short_read, bad_read, told}
use Rattle.dcm_head.proofs.laws.heads_read.Goals as goal

pub returns-clause-done : goal.returns-clause-done
returns-clause-done c = λ s bytes head size. (told s bytes (Done head size), begins_read s bytes head size)

pub returns-clause-more : goal.returns-clause-more
returns-clause-more c = λ s bytes size. (told s bytes (More size), short_read s bytes size)

pub returns-clause-bad : goal.returns-clause-bad
returns-clause-bad c = λ s bytes. (told s bytes BadVr, bad_read s bytes)
