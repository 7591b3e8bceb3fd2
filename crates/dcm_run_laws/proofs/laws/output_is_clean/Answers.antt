use Rattle.dcm_run_laws.proofs.ReadBack.DeidentifiedReads as again
use Rattle.dcm_run_laws.proofs.laws.output_is_clean.Goals as goal

pub returns : goal.returns
returns c = λ options reports key input a m coding f h. again.output_is_clean options reports key input a m coding f h
