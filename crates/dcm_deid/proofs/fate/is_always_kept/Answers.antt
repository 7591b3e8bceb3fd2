use Rattle.dcm_deid.proofs.AlwaysKept.{found}
use Rattle.dcm_deid.proofs.fate.is_always_kept.Goals as goal

pub returns : goal.returns
returns c = λ same. found c.args.read c.always_kept.result.now c.kept_place.result c.args.number c.always_kept.ensures c.kept_place.ensures same
