use Rattle.dcm_edits.proofs.Words.EditCount.{few}
use Rattle.dcm_editor.proofs.laws.edits_are_few.Goals as goal

pub returns : goal.returns
returns c = few
