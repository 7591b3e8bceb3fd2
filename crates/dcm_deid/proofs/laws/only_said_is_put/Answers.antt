use Rattle.dcm_deid.proofs.Trees.Said.{only_said_is_put}
use Rattle.dcm_deid.proofs.laws.only_said_is_put.Goals as goal

pub returns : goal.returns
returns c = only_said_is_put
