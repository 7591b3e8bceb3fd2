use Rattle.dcm_edits.proofs.Words.WordValues.{edits_fit}
use Rattle.dcm_editor.proofs.laws.edits_fit.Goals as goal

pub returns : goal.returns
returns c = edits_fit
