use Rattle.std.proofs.Common.{refl, rules}
use Rattle.dcm_each.specs.Each.{refused, opened_at}
use Rattle.dcm_each.proofs.each.open_at.Goals as goal

pub returns-in-Ok : goal.returns-in-Ok
returns-in-Ok g c = opened_at c.in-Ok.opened (search rules) c.in-Ok.ensures refl

pub returns-in-Err : goal.returns-in-Err
returns-in-Err g c = refused c.in-Err.field-0 (search rules) c.in-Err.ensures refl
