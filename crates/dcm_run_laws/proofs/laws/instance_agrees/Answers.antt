use Rattle.dcm_run_laws.proofs.ReadBack.DeidentifiedReads as again
use Rattle.dcm_run_laws.proofs.laws.instance_agrees.Goals as goal

pub returns : goal.returns
returns c = λ options reports key input a m coding f h. again.instance_agrees options reports key input a m coding f h
