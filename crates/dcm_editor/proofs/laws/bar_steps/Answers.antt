use Rattle.dcm_editor.proofs.EditSinks.Bars.{bar_steps}
use Rattle.dcm_editor.proofs.laws.bar_steps.Goals as goal

pub returns : goal.returns
returns c = bar_steps
