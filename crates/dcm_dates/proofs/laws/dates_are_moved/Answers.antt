use Rattle.dcm_dates.proofs.Texts.{text_is_moved, only_moved}
use Rattle.dcm_dates.proofs.laws.dates_are_moved.Goals as goal

pub returns-clause-moved : goal.returns-clause-moved
returns-clause-moved c = text_is_moved

pub returns-clause-only : goal.returns-clause-only
returns-clause-only c = only_moved
