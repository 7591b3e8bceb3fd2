use Rattle.dcm_build.proofs.Files.Runs.{whole, so_far, refused}
use Rattle.dcm_build_laws.proofs.Halts.{goes_where, call_refuses, call_tells}
use Rattle.dcm_build_laws.proofs.laws.build_steps.Goals as goal

pub returns : goal.returns
returns c = record { whole = whole; so_far = so_far; refused = refused; going = goes_where; halts = call_refuses; fault = call_tells }
