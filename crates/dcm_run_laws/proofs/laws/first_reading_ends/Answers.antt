use Rattle.dcm_run_laws.proofs.Runs.FirstLaws.{ends_once, ends_some}
use Rattle.dcm_run_laws.proofs.laws.first_reading_ends.Goals as goal

pub returns-clause-once : goal.returns-clause-once
returns-clause-once c = ends_once

pub returns-clause-some : goal.returns-clause-some
returns-clause-some c = ends_some
