use Rattle.std.proofs.Common.{sym}
use Rattle.base64.specs.Engines.{standard}
use Rattle.base64.proofs.EngineFacts.{encode_of-append}
use Rattle.dcm_json.proofs.Written.{both_out, failed_first, wrote_as}
use Rattle.dcm_json.proofs.base64_value.put_both.Goals as goal

pub returns-in_err-put_groups : goal.returns-in_err-put_groups
returns-in_err-put_groups g c =
    wrote_as _ (sym (encode_of-append standard c.args.first.now c.args.others.now c.requires.first))
    (failed_first _ _ c.from_residual.ensures.0 c.in_err-put_groups.ensures.bytes c.in_err-put_groups.ensures.failed)

pub returns : goal.returns
returns g c =
    wrote_as _ (sym (encode_of-append standard c.args.first.now c.args.others.now c.requires.first))
    (both_out _ c.in_ok-put_groups.ensures.bytes c.in_ok-put_groups.ensures.failed c.put_groups-2.ensures)
