use Rattle.dcm_editor_laws.proofs.Trees.Gone.{modified_all_is_so}
use Rattle.dcm_editor_laws.proofs.laws.modified_all_is_so.Goals as goal

pub returns : goal.returns
returns c = λ edits s at f again stop tag vr value h stay among reads. modified_all_is_so s h.words edits h.mean h.start h.bytes f h.begins h.are_bytes h.reads stay at h.within again stop reads tag vr value among
