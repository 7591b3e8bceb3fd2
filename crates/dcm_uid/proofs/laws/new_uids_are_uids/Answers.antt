use Rattle.dcm_uid.proofs.NewUids.{new_uids}
use Rattle.dcm_uid.proofs.laws.new_uids_are_uids.Goals as goal

pub returns : goal.returns
returns c = new_uids
