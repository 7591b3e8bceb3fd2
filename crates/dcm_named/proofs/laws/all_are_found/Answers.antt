use Rattle.std.proofs.Common.{[]}
use Rattle.dcm_named.proofs.Found.{front_found}
use Rattle.dcm_named.proofs.laws.all_are_found.Goals as goal

pub returns : goal.returns
returns c = λ q sets x. front_found q x sets []
