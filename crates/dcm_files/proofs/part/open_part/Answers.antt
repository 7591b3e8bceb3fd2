use Rattle.std.proofs.Common.{rules, refl, subst}
use Rattle.dcm_files.specs.Part.{MakesPart, not_found, found}
use Rattle.dcm_files.proofs.part.open_part.Goals as goal

pub returns-in-Ok : goal.returns-in-Ok
returns-in-Ok g c = found c.find_part.new.system (search rules) (subst (λ part. MakesPart g.S.System.may_do part c.find_part.new.system c.make_part.result c.make_part.new.system) (search rules) c.make_part.ensures)

pub returns-in-Err : goal.returns-in-Err
returns-in-Err g c = not_found c.in-Err.cause (search rules) refl
