use Rattle.dcm_edits.proofs.Words.EditWordLemmas.{edits_are_apart}
use Rattle.dcm_editor.proofs.laws.edits_are_apart.Goals as goal

pub returns : goal.returns
returns c = edits_are_apart
