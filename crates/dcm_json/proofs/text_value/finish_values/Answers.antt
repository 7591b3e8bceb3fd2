use Rattle.std.proofs.Common.{ap, [], true, ◌++◌}
use Rattle.dcm_base.specs.Steps.Steps.{outputs}
use Rattle.dcm_text.specs.Runs.{run, state_of}
use Rattle.dcm_json.specs.TextState.{parts_in}
use Rattle.dcm_json.specs.Values as values
use Rattle.dcm_json.specs.Values.{Values}
use Rattle.dcm_json.proofs.Written.{both_out, wrote_as}
use Rattle.dcm_json.proofs.text_value.finish_values.Goals as goal

pub returns : goal.returns
returns g c =
    wrote_as _ (ap (λ (v : Values). outputs values.step values.writes c.args.values (parts_in (run true (state_of c.args.decoder) [])) ++ values.finishes v) c.in_ok-decode.ensures.values)
    (both_out _ c.in_ok-decode.ensures.wrote.bytes c.in_ok-decode.ensures.wrote.failed c.finish.ensures)
