use Rattle.dcm_edits.proofs.Trees.OneByOneFront.{one_by_one}
use Rattle.dcm_editor.proofs.laws.one_by_one.Goals as goal

pub returns : goal.returns
returns c = one_by_one
