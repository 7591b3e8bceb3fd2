use Rattle.dcm_deid_laws.proofs.ReadsAgain as again
use Rattle.dcm_deid_laws.proofs.laws.deidentified_twice.Goals as goal

pub returns : goal.returns
returns c = λ options key s at f h given. again.deidentified_twice options key s at f h given
