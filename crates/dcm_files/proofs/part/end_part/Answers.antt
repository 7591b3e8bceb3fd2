use Rattle.std.proofs.Common.{rules, refl, subst}
use Rattle.dcm_files.specs.Part.{MovesPart, removed, moved, not_moved}
use Rattle.dcm_files.proofs.part.end_part.Goals as goal

pub returns-then-not-is_whole : goal.returns-then-not-is_whole
returns-then-not-is_whole g c = removed (search rules) (search rules) c.remove_part.ensures

pub returns-in-Ok : goal.returns-in-Ok
returns-in-Ok g c =
    moved (search rules) (search rules)
    (subst (λ r. MovesPart g.S.System.may_do c.args.output.now c.args.system.now r c.move_part.new.system) c.in-Ok.is c.move_part.ensures)
    refl

pub returns-in-Err : goal.returns-in-Err
returns-in-Err g c =
    not_moved c.in-Err.e c.remove_part-in-Err.result c.move_part.new.system (search rules) (search rules)
    (subst (λ r. MovesPart g.S.System.may_do c.args.output.now c.args.system.now r c.move_part.new.system) c.in-Err.is c.move_part.ensures)
    c.remove_part-in-Err.ensures refl
