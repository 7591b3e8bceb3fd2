use Rattle.std.proofs.Common.{◌≡◌, ◌∙◌, ap, sym, subst, refl, ◌≤◌, ℕ, List, length}
use Rattle.dcm_devices.specs.Memory.{room_of}
use Rattle.dcm_devices.specs.declared.memory.MemIn.{MemIn}
use Rattle.dcm_devices.specs.declared.memory.MemOut.{MemOut}
use Rattle.dcm_devices.specs.declared.memory.Measured.{Measured}
use Rattle.dcm_cli.specs.Answer.{Answers}
use Rattle.dcm_cli.specs.InMemory.{LeavesAnswer}
use Rattle.dcm_words.specs.Plans.{job_of}
use Rattle.dcm_cli.proofs.Passes.Readers.{known}
use Rattle.dcm_cli.proofs.Runs.InMemory.{memory_left}
use Rattle.dcm_cli.proofs.in_memory.run_in_memory.Goals as goal

pub returns : goal.returns
returns c = λ fine a answers enough.
    let out : c.new-out.result.out ≡ c.args.out = ap (λ (m : Measured). m.out) c.new-out.ensures ∙ c.new.ensures in
    let errors : c.new-errors.result.out ≡ c.args.errors = ap (λ (m : Measured). m.out) c.new-errors.ensures ∙ c.new-2.ensures in
    let new_out : c.run-outcome.new.out.out ≡ c.into_inner.result = sym (c.into_inner.ensures ∙ ap (λ (m : Measured). m.out) c.into_device.ensures) in
    let new_errors : c.run-outcome.new.errors.out ≡ c.into_inner-2.result = sym (c.into_inner-2.ensures ∙ ap (λ (m : Measured). m.out) c.into_device-2.ensures) in
    let run = c.run-outcome.ensures in
    let here = known _ _ _ _ run.given run.how run.reads c.new-input.result.rest.now refl in
    let left = memory_left (job_of c.args.job.now) run.given here.0 run.how here.1 c.new-out.result.out c.run-outcome.new.out.out c.new-errors.result.out c.run-outcome.new.errors.out c.run-outcome.result.status
    (run.ran refl (ap (λ (m : MemOut). m.failed) out ∙ fine)) a
    (subst (λ (bytes : List ℕ). Answers (job_of c.args.job.now) bytes a) here.2 (subst (λ (m : MemIn). Answers (job_of c.args.job.now) m.rest.now a) (sym c.new-input.ensures) answers)) (subst (λ (m : MemOut). length a.output ≤ room_of m) (sym out) enough)
    in
    subst (λ (m : MemOut). LeavesAnswer a m c.into_inner.result c.args.errors c.into_inner-2.result c.run-outcome.result.status) out
    (subst (λ (m : MemOut). LeavesAnswer a c.new-out.result.out m c.args.errors c.into_inner-2.result c.run-outcome.result.status) new_out
    (subst (λ (m : MemOut). LeavesAnswer a c.new-out.result.out c.run-outcome.new.out.out m c.into_inner-2.result c.run-outcome.result.status) errors
    (subst (λ (m : MemOut). LeavesAnswer a c.new-out.result.out c.run-outcome.new.out.out c.new-errors.result.out m c.run-outcome.result.status) new_errors left)))
