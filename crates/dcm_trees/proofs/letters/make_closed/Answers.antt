use Rattle.std.proofs.Common.{ap, refl, Err}
use Rattle.dcm_trees.specs.Letters as spec
use Rattle.dcm_trees.proofs.letters.make_closed.Goals as goal

pub returns-in-Ok : goal.returns-in-Ok
returns-in-Ok g c = spec.made c.in-Ok.output c.make_part.new.system c.in-Ok.ensures (record { answer = c.close.result; call = c.close.ensures }) refl

pub returns-in-Err : goal.returns-in-Err
returns-in-Err g c = spec.not_made c.in-Err.cause c.in-Err.ensures (ap Err c.refusal_of.ensures)
