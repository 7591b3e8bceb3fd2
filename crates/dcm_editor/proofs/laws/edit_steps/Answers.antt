use Rattle.dcm_editor.proofs.EditSinks.Law.{edit_steps}
use Rattle.dcm_editor.proofs.laws.edit_steps.Goals as goal

pub returns : goal.returns
returns c = edit_steps
