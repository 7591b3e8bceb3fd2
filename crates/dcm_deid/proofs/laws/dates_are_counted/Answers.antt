use Rattle.dcm_deid.proofs.DatesTold as dates
use Rattle.dcm_deid.proofs.laws.dates_are_counted.Goals as goal

pub returns : goal.returns
returns c = dates.date_steps
