use Rattle.dcm_editor.proofs.ReadBack.EditReads.{edit_reads_whole, edit_reads_so_far}
use Rattle.dcm_editor.proofs.laws.edit_reads.Goals as goal

pub returns : goal.returns
returns c = record {
  whole = λ target edits p b v x w s start bytes f stop le. edit_reads_whole target edits p b v x w s start bytes f stop le;
  so_far = λ target edits p b v x w s start bytes f stop le. edit_reads_so_far target edits p b v x w s start bytes f stop le;
}
