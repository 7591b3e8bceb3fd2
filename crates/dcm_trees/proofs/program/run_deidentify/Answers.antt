use Rattle.std.proofs.Common.{ap}
use Rattle.std.specs.Option.{option_map}
use Rattle.dcm_trees.specs.Program as spec
use Rattle.dcm_trees.proofs.program.run_deidentify.Goals as goal

pub returns-in_default-clause-runs : goal.returns-in_default-clause-runs
returns-in_default-clause-runs g c = spec.without_key (ap (option_map (λ k. k.now)) c.in_default.is) c.run_task.ensures.runs

pub returns-in-Ok-clause-runs : goal.returns-in-Ok-clause-runs
returns-in-Ok-clause-runs g c = spec.with_key c.in-Some.path.now c.in-Ok.read c.take_key.new.system (ap (option_map (λ k. k.now)) c.in-Some.is) c.in-Ok.ensures c.run_keyed.ensures.runs

pub returns-in-Err-clause-runs : goal.returns-in-Err-clause-runs
returns-in-Err-clause-runs g c = spec.no_key c.in-Some.path.now c.in-Err.cause (ap (option_map (λ k. k.now)) c.in-Some.is) c.in-Err.ensures c.tell_no_key.ensures.line c.tell_no_key.ensures.status
