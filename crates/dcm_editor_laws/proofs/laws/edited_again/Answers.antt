use Rattle.dcm_editor_laws.proofs.ReadBack.EditedAgain.{writes_again, modifies_again}
use Rattle.dcm_editor_laws.proofs.laws.edited_again.Goals as goal

pub returns : goal.returns
returns c = record {
  writes = λ edits s at f again stop h stay r reads. writes_again edits s at f again stop h stay r reads;
  modifies = λ edits s at f again stop h stay r are reads. modifies_again edits s at f again stop h stay r reads are;
}
