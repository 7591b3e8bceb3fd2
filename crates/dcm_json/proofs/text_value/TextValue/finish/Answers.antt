use Rattle.std.proofs.Common.{ap, ◌∙◌}
use Rattle.dcm_json.specs.TextState.{finishes}
use Rattle.dcm_json.proofs.Decoding.{finishes_is}
use Rattle.dcm_json.proofs.Written.{wrote_as}
use Rattle.dcm_json.proofs.text_value.TextValue.finish.Goals as goal

pub returns : goal.returns
returns g c = wrote_as _ (finishes_is c.self.inside.left c.self.inside.waits c.self.inside.decoder c.self.inside.values ∙ ap finishes c.self.view_is) c.finish_values.ensures
