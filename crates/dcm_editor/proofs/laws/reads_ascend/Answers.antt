use Rattle.dcm_editor.proofs.ReadBack.ReadsAscend.{reads_ascend, reads_ascend_so_far}
use Rattle.dcm_editor.proofs.laws.reads_ascend.Goals as goal

pub returns : goal.returns
returns c = record { whole = reads_ascend; so_far = reads_ascend_so_far }
