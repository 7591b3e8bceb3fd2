use Rattle.std.proofs.Common.{◌≡◌, ◌∙◌, ◌++◌, ap, sym, subst, ℕ, List, ◌≤◌, length}
use Rattle.dcm_base.specs.declared.mode.Mode.{Mode}
use Rattle.dcm_value.specs.Progress.{end_writes}
use Rattle.dcm_value.specs.Whole.{whole, text_in, count_in}
use Rattle.dcm_sinks.proofs.Dumps.WholeLines.{short_text}
use Rattle.dcm_sinks.proofs.dump.lines.whole.append_value.Goals as goal

pub returns-in_ok-append_by_text-in-Short-clause-line : goal.returns-in_ok-append_by_text-in-Short-clause-line
returns-in_ok-append_by_text-in-Short-clause-line g c =
    let a = c.args in
    let told = c.in_ok-append_by_text-in-Short.ensures in
    let new = c.append_by_text.new.line.items in
    let before = a.line.now.items in
    subst (λ (m : Mode). (new ≡ before ++ text_in m a.vr a.syntax a.value.now) × (c.in_ok-append_by_text-in-Short.field-0 ≡ count_in m a.vr a.syntax a.value.now) × (length new ≤ 337)) (sym c.in-Short.is)
    (told.line ∙ ap (λ (z : List ℕ). z ++ end_writes (whole a.vr a.syntax a.value.now)) (c.in_default-append_few.ensures.none ∙ c.in_default.ensures.items) ∙ ap (λ (z : List ℕ). before ++ z) (short_text a.vr a.syntax a.value.now), told.count, told.within)
