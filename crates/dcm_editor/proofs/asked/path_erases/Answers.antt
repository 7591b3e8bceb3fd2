use Rattle.dcm_editor.proofs.Overlapping.Paths.{erases_with_steps}
use Rattle.dcm_editor.proofs.asked.path_erases.Goals as goal

pub returns-in-len1-up : goal.returns-in-len1-up
returns-in-len1-up g c = erases_with_steps _ _ _ c.args.tag c.args.item c.steps_left.ensures c.in-len1-up.len_at_least
