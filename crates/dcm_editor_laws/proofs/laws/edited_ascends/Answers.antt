use Rattle.dcm_editor_laws.proofs.ReadBack.EditedAscends.{edited_ascends}
use Rattle.dcm_editor_laws.proofs.laws.edited_ascends.Goals as goal

pub returns : goal.returns
returns c = λ edits s at f h stay. edited_ascends s h.words edits h.mean h.start h.bytes f h.begins h.are_bytes h.reads stay at h.within
