use Rattle.dcm_editor_laws.proofs.Trees.Gone.{erased_all_is_gone}
use Rattle.dcm_editor_laws.proofs.laws.erased_all_is_gone.Goals as goal

pub returns : goal.returns
returns c = λ edits s at f again stop tag h stay among reads. erased_all_is_gone s h.words edits h.mean h.start h.bytes f h.begins h.are_bytes h.reads stay at h.within again stop reads tag among
