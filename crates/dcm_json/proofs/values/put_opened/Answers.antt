use Rattle.dcm_json.proofs.Written.{both_out}
use Rattle.dcm_json.proofs.values.put_opened.Goals as goal

pub returns : goal.returns
returns g c = both_out _ c.in_ok-put_all.ensures.wrote.bytes c.in_ok-put_all.ensures.wrote.failed c.put_escaped.ensures
