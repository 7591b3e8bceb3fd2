use Rattle.dcm_dates.proofs.Texts.{sum_moved, back_moved}
use Rattle.dcm_dates.proofs.laws.moves_add_up.Goals as goal

pub returns-clause-sum : goal.returns-clause-sum
returns-clause-sum c = sum_moved

pub returns-clause-back : goal.returns-clause-back
returns-clause-back c = back_moved
