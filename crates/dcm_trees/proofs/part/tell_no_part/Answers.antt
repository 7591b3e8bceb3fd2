use Rattle.std.proofs.Common.{ap, refl}
use Rattle.dcm_trees.specs.Part as spec
use Rattle.dcm_trees.proofs.part.tell_no_part.Goals as goal

pub returns-in-There : goal.returns-in-There
returns-in-There g c = spec.ends_run _ (ap spec.stop_of c.in-There.is) refl refl

pub returns-in-Memory : goal.returns-in-Memory
returns-in-Memory g c = spec.ends_run _ (ap spec.stop_of c.in-Memory.is) refl refl

pub returns-in-NotMade : goal.returns-in-NotMade
returns-in-NotMade g c = spec.told c.in-NotMade.is c.tell_text.ensures refl
