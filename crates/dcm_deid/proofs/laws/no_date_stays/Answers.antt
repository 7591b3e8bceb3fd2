use Rattle.dcm_deid.proofs.Formed.{no_date_stays}
use Rattle.dcm_deid.proofs.laws.no_date_stays.Goals as goal

pub returns : goal.returns
returns c = no_date_stays
