use Rattle.dcm_json.proofs.Written.{both_out, failed_first}
use Rattle.dcm_json.proofs.values.put_string.Goals as goal

pub returns : goal.returns
returns g c = both_out _ c.in_ok-put_all.ensures.wrote.bytes c.in_ok-put_all.ensures.wrote.failed c.put_closed.ensures

pub returns-in_err-put_all : goal.returns-in_err-put_all
returns-in_err-put_all g c = failed_first _ _ c.from_residual.ensures.0 c.in_err-put_all.ensures.wrote.bytes c.in_err-put_all.ensures.wrote.failed
