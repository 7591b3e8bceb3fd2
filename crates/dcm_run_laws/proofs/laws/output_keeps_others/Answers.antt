use Rattle.dcm_run_laws.proofs.ReadBack.OtherReaders.{output_keeps_others}
use Rattle.dcm_run_laws.proofs.laws.output_keeps_others.Goals as goal

pub returns : goal.returns
returns c = output_keeps_others
