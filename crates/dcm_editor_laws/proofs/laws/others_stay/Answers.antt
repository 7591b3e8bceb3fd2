use Rattle.dcm_editor_laws.proofs.ReadBack.EditedReads.{front_ready}
use Rattle.dcm_editor_laws.proofs.Trees.Gone.{anything}
use Rattle.dcm_editor_laws.proofs.Trees.Others.{others_stay}
use Rattle.dcm_editor_laws.proofs.laws.others_stay.Goals as goal
use Rattle.dcm_editor_laws.proofs.ReadBack.Plain.{plain}

pub returns : goal.returns
returns c = λ edits s at f h. others_stay edits f (anything (plain s) f (front_ready s h.start h.bytes f h.begins h.are_bytes h.reads))
