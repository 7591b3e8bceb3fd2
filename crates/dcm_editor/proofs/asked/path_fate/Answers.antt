use Rattle.dcm_editor.proofs.Overlapping.Paths.{stays_with_steps}
use Rattle.dcm_editor.proofs.asked.path_fate.Goals as goal

pub returns-in-len1-up : goal.returns-in-len1-up
returns-in-len1-up g c = stays_with_steps _ _ _ c.args.tag c.steps_left.ensures c.in-len1-up.len_at_least
