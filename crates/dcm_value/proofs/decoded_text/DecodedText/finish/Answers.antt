use Rattle.std.proofs.Common.{◌∙◌, ap}
use Rattle.dcm_value.specs.DecodedProgress.{counted, multiplicity}
use Rattle.dcm_value.proofs.decoded_text.DecodedText.finish.Goals as goal

pub returns-clause-count : goal.returns-clause-count
unfolding multiplicity
returns-clause-count g c = c.count.ensures ∙ ap counted c.in_ok-close.ensures.state
