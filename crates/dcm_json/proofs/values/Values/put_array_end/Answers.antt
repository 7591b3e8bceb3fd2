use Rattle.dcm_json.proofs.Written.{both_out, failed_first}
use Rattle.dcm_json.proofs.values.Values.put_array_end.Goals as goal

pub returns : goal.returns
returns g c = both_out _ c.in_ok-put_end.ensures.bytes c.in_ok-put_end.ensures.failed c.put_all.ensures.wrote

pub returns-in_err-put_end : goal.returns-in_err-put_end
returns-in_err-put_end g c = failed_first _ _ c.from_residual.ensures.0 c.in_err-put_end.ensures.bytes c.in_err-put_end.ensures.failed
