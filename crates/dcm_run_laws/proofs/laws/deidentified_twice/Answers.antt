use Rattle.dcm_run_laws.proofs.ReadBack.DeidentifiedTwice as twice
use Rattle.dcm_run_laws.proofs.laws.deidentified_twice.Goals as goal

pub returns : goal.returns
returns c = λ options reports key input a b m coding f h given y. twice.deidentified_twice options reports key input a m coding f h given b y
