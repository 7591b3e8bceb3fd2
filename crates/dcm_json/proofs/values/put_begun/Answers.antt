use Rattle.dcm_json.proofs.Written.{both_out}
use Rattle.dcm_json.proofs.values.put_begun.Goals as goal

pub returns : goal.returns
returns g c = both_out _ c.in_ok-put_opened.ensures.bytes c.in_ok-put_opened.ensures.failed c.put_spaced.ensures
