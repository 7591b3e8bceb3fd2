use Rattle.dcm_run_laws.proofs.ReadBack.ThereAndBack as back
use Rattle.dcm_run_laws.proofs.laws.there_and_back.Goals as goal

pub returns : goal.returns
returns c = back.there_and_back
