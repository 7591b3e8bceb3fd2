use Rattle.dcm_deid.specs.Fate.{fate_as}
use Rattle.dcm_deid.proofs.Trees.Clean.{clean}
use Rattle.dcm_deid.proofs.Trees.Made.{made_anew}
use Rattle.dcm_deid.proofs.laws.taken_is_gone.Goals as goal

pub returns-clause-clean : goal.returns-clause-clean
returns-clause-clean c = λ options new depth f. clean (fate_as options) new depth f

pub returns-clause-made : goal.returns-clause-made
returns-clause-made c = made_anew
