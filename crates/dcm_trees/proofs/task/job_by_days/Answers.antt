use Rattle.std.proofs.Common.{ap, refl, subst, rules, w32, ℕ, ℤ, List, Ok, Err, ◌∙◌}
use Rattle.std.proofs.lemmas.Int.{to_z-of_z}
use Rattle.dcm_words.specs.Words.{deidentify, with_days}
use Rattle.dcm_trees.specs.Task as spec
use Rattle.dcm_trees.specs.Task.{TakesDays}
use Rattle.dcm_cli.proofs.Passes.Readers.{members}
use Rattle.dcm_trees.proofs.task.job_by_days.Goals as goal

pub returns-in-Ok : goal.returns-in-Ok
returns-in-Ok g c =
    spec.of_days _ _ _ c.in-Ok.days refl
    (subst (λ (key : List ℕ). TakesDays g.S.System.may_do (members g.S.Input.Device g.S.Input.DeviceIn) key c.args.path.now c.args.system.now (Ok c.in-Ok.days) c.take_days.new.system) c.as_slice.ensures.value c.in-Ok.ensures)
    (ap Ok (c.moved_by.ensures ∙ ap (λ (days : ℤ). deidentify (with_days c.args.what.now.options days) c.args.what.now.reports c.args.what.now.key.items) (to_z-of_z w32 c.in-Ok.days (search rules))))

pub returns-in-Err : goal.returns-in-Err
returns-in-Err g c =
    spec.no_days _ _ _ c.in-Err.cause refl
    (subst (λ (key : List ℕ). TakesDays g.S.System.may_do (members g.S.Input.Device g.S.Input.DeviceIn) key c.args.path.now c.args.system.now (Err c.in-Err.cause) c.take_days.new.system) c.as_slice.ensures.value c.in-Err.ensures)
    refl
