use Rattle.dcm_deid.proofs.Trees.Kept.{others_are_kept}
use Rattle.dcm_deid.proofs.laws.others_are_kept.Goals as goal

pub returns : goal.returns
returns c = others_are_kept
