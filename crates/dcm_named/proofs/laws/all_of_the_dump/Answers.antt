use Rattle.std.proofs.Common.{[]}
use Rattle.dcm_named.proofs.Found.{front_all}
use Rattle.dcm_named.proofs.laws.all_of_the_dump.Goals as goal

pub returns : goal.returns
returns c = λ q sets x w e. front_all q x sets [] w e
