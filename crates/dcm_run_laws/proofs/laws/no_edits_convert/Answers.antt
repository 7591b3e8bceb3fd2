use Rattle.dcm_run_laws.proofs.Runs.NoEdits.{no_edits_convert}
use Rattle.dcm_run_laws.proofs.laws.no_edits_convert.Goals as goal

pub returns : goal.returns
returns c = no_edits_convert
