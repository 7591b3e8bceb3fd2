use Rattle.dcm_deid_laws.proofs.ReadsAgain as again
use Rattle.dcm_deid_laws.proofs.laws.written_is_clean.Goals as goal

pub returns : goal.returns
returns c = λ options key s at f read stop h reads. again.taken_is_gone options key s at f h read stop reads
