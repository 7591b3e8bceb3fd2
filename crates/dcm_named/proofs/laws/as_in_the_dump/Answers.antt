use Rattle.std.proofs.Common.{[]}
use Rattle.dcm_named.proofs.Found.{front_dumped}
use Rattle.dcm_named.proofs.laws.as_in_the_dump.Goals as goal

pub returns : goal.returns
returns c = λ q sets level x. front_dumped q x sets [] level
