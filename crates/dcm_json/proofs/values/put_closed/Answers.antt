use Rattle.dcm_json.proofs.Written.{both_out, failed_first}
use Rattle.dcm_json.proofs.values.put_closed.Goals as goal

pub returns : goal.returns
returns g c = both_out _ c.in_ok-put_escaped.ensures.bytes c.in_ok-put_escaped.ensures.failed c.put_all.ensures.wrote

pub returns-in_err-put_escaped : goal.returns-in_err-put_escaped
returns-in_err-put_escaped g c = failed_first _ _ c.from_residual.ensures.0 c.in_err-put_escaped.ensures.bytes c.in_err-put_escaped.ensures.failed
