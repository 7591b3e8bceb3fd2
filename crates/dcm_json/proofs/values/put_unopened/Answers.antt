use Rattle.std.proofs.Common.{refl}
use Rattle.dcm_lemmas.proofs.Lists.{joined_alike}
use Rattle.dcm_json.proofs.Written.{both_out, wrote_as}
use Rattle.dcm_json.proofs.values.put_unopened.Goals as goal

pub returns : goal.returns
returns g c = wrote_as _ (joined_alike c.before-2.ensures refl) (both_out _ c.in_ok-put_all.ensures.wrote.bytes c.in_ok-put_all.ensures.wrote.failed c.put_digits.ensures)
