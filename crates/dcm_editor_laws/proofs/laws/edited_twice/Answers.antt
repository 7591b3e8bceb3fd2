use Rattle.dcm_editor_laws.proofs.ReadBack.TwiceWritten.{edited_twice}
use Rattle.dcm_editor_laws.proofs.laws.edited_twice.Goals as goal

pub returns : goal.returns
returns c = λ edits s at f h r. edited_twice s h.words edits h.mean r h.start h.bytes f h.begins h.are_bytes h.reads
