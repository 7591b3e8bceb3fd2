use Rattle.dcm_editor_laws.proofs.Readers.Others.{others_stay_written}
use Rattle.dcm_editor_laws.proofs.laws.others_stay_written.Goals as goal

pub returns : goal.returns
returns c = λ edits s at f again stop h stay keep reads. others_stay_written edits s at f h stay keep again stop reads
