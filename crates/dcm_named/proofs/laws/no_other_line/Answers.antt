use Rattle.std.proofs.Common.{[], refl}
use Rattle.dcm_named.proofs.Found.{front_own}
use Rattle.dcm_named.proofs.laws.no_other_line.Goals as goal

pub returns : goal.returns
returns c = λ q sets x. front_own q x sets [] refl
