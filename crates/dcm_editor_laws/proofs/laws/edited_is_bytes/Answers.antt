use Rattle.dcm_editor_laws.proofs.ReadBack.EditedBytes.{edited_is_bytes}
use Rattle.dcm_editor_laws.proofs.laws.edited_is_bytes.Goals as goal

pub returns : goal.returns
returns c = λ edits s at f h fine. edited_is_bytes s h.words edits fine h.mean h.start h.bytes f h.begins h.are_bytes h.reads
