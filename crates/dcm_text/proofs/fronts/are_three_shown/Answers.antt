use Rattle.std.proofs.Common.{sym, ap, ◌∙◌}
use Rattle.dcm_text.specs.Fronts.{is_shown}
use Rattle.dcm_text.proofs.Ahead.{three_shown}
use Rattle.dcm_text.proofs.fronts.are_three_shown.Goals as goal

pub returns-then-goes_on-2 : goal.returns-then-goes_on-2
returns-then-goes_on-2 c = λ h.
    three_shown c.args.first c.args.second c.args.third (sym c.begins_three.ensures ∙ c.if-begins_three.true)
    (sym c.goes_on.ensures ∙ c.if-goes_on.true) (sym c.goes_on-then-goes_on.ensures ∙ c.if-goes_on-2.true)
    (sym (ap is_shown c.character_utf8.ensures) ∙ sym c.is_shown.ensures ∙ h)
