use Rattle.std.proofs.Common.{refl, sym, ◌∙◌}
use Rattle.dcm_trees.specs.Work as spec
use Rattle.dcm_trees.proofs.work.WorkVisitorWatched.visit.Goals as goal

pub returns-in-Ok : goal.returns-in-Ok
returns-in-Ok g c = (spec.was_done c.in-Ok.done c.do_name.new.errors (sym c.is_of.ensures ∙ c.if-not-is_of.false) c.in-Ok.ensures c.end_name.ensures.ends, c.end_name.ensures.shared)

pub returns-in-Err : goal.returns-in-Err
returns-in-Err g c = (spec.ends_run c.in-Err.stop _ (sym c.is_of.ensures ∙ c.if-not-is_of.false) c.in-Err.ensures refl refl, refl)
