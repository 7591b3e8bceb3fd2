use Rattle.std.proofs.Common.{rules, ◌∙◌, ap, refl}
use Rattle.dcm_tables.specs.OverStd.{started, not_started}
use Rattle.dcm_tables.proofs.program.dcmtools.Goals as goal

pub returns-in-Ok-clause-ends : goal.returns-in-Ok-clause-ends
returns-in-Ok-clause-ends c =
    started c.new-errors.result c.in-Ok.host _
    (record { sound = ap (λ s. s.failed) c.new-errors.ensures ∙ c.new.ensures.failed; unused = ap (λ s. s.passed.bytes) c.new-errors.ensures ∙ c.new.ensures.passed })
    c.in-Ok.ensures.calls refl (search rules)

pub returns-in-Err-clause-ends : goal.returns-in-Err-clause-ends
returns-in-Err-clause-ends c =
    not_started c.new-errors.result _
    (record { sound = ap (λ s. s.failed) c.new-errors.ensures ∙ c.new.ensures.failed; unused = ap (λ s. s.passed.bytes) c.new-errors.ensures ∙ c.new.ensures.passed })
    refl c.tell_open.ensures.line c.tell_open.ensures.status
