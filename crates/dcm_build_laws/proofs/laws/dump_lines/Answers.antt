use Rattle.dcm_build_laws.proofs.Rebuilds.LinesLead.{lines_mean}
use Rattle.dcm_build_laws.proofs.laws.dump_lines.Goals as goal

pub returns : goal.returns
returns c = lines_mean
