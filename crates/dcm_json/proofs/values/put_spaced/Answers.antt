use Rattle.dcm_json.proofs.Written.{both_out, failed_first}
use Rattle.dcm_json.proofs.values.put_spaced.Goals as goal

pub returns-in_err-put_spaces : goal.returns-in_err-put_spaces
returns-in_err-put_spaces g c = failed_first _ _ c.from_residual.ensures.0 c.in_err-put_spaces.ensures.bytes c.in_err-put_spaces.ensures.failed

pub returns : goal.returns
returns g c = both_out _ c.in_ok-put_spaces.ensures.bytes c.in_ok-put_spaces.ensures.failed c.put_escaped.ensures
