use Rattle.dcm_deid_laws.proofs.ReadsAgain as again
use Rattle.dcm_deid_laws.proofs.laws.there_and_back.Goals as goal

pub returns : goal.returns
returns c = λ options key days s at f h given. again.there_and_back options key days s at f h given
