use Rattle.dcm_dates.proofs.Later.{intervals_kept}
use Rattle.dcm_dates.proofs.laws.intervals_are_kept.Goals as goal

pub returns : goal.returns
returns c = intervals_kept
