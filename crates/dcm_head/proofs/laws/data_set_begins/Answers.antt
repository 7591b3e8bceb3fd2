use Rattle.dcm_head.proofs.HeadReading.Stays.{data_set_there}
use Rattle.dcm_head.proofs.laws.data_set_begins.Goals as goal

pub returns : goal.returns
returns c = data_set_there
