use Rattle.std.proofs.Common.{◌≡◌, ◌∙◌, ap, sym, subst, map, Option, ◌⊎◌, true}
use Rattle.dcm_devices.specs.declared.memory.MemOut.{MemOut}
use Rattle.dcm_devices.specs.declared.memory.Measured.{Measured}
use Rattle.dcm_words.specs.Plans.{takes_memory}
use Rattle.dcm_words.specs.declared.usage.Usage.TheVariants.{Memory}
use Rattle.dcm_cli.specs.InMemory.{Leaves, refused}
use Rattle.dcm_cli.proofs.Runs.ObeyingMemory.{obeys_left}
use Rattle.dcm_cli.proofs.in_memory.obey_in_memory.Goals as goal

pub returns : goal.returns
returns c = λ o comes room.
    let words = map (λ w. w.now) c.args.words.now in
    let status = c.obey-status.result in
    let output = c.into_written.ensures in
    let old_errors : c.new-errors.result.out ≡ c.args.errors = ap (λ (m : Measured). m.out) c.new-errors.ensures ∙ c.new.ensures in
    let new_errors : c.obey-status.new.errors.out ≡ c.into_inner.result = sym (c.into_inner.ensures ∙ ap (λ (m : Measured). m.out) c.into_device.ensures) in
    subst (λ (x : Option MemOut). Leaves o c.args.system c.args.errors x c.into_inner.result status ⊎ ((takes_memory words ≡ true) × Leaves (refused Memory) c.args.system c.args.errors x c.into_inner.result status)) (sym output)
    (subst (λ (x : MemOut). Leaves o c.args.system x c.obey-status.new.system.written c.into_inner.result status ⊎ ((takes_memory words ≡ true) × Leaves (refused Memory) c.args.system x c.obey-status.new.system.written c.into_inner.result status)) old_errors
    (subst (λ (x : MemOut). Leaves o c.args.system c.new-errors.result.out c.obey-status.new.system.written x status ⊎ ((takes_memory words ≡ true) × Leaves (refused Memory) c.args.system c.new-errors.result.out c.obey-status.new.system.written x status)) new_errors
    (obeys_left c.args.system c.obey-status.new.system c.new-errors.result.out c.obey-status.new.errors.out status words o comes room c.obey-status.ensures.obeys)))
