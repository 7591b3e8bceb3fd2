use Rattle.std.proofs.Common.{sym, ap, ◌∙◌}
use Rattle.dcm_text.specs.Fronts.{is_shown}
use Rattle.dcm_text.proofs.Ahead.{two_shown}
use Rattle.dcm_text.proofs.fronts.are_two_shown.Goals as goal

pub returns-then-goes_on : goal.returns-then-goes_on
returns-then-goes_on c = λ h.
    two_shown c.args.first c.args.second (sym c.begins_two.ensures ∙ c.if-begins_two.true) (sym c.goes_on.ensures ∙ c.if-goes_on.true)
    (sym (ap is_shown c.character_utf8.ensures) ∙ sym c.is_shown.ensures ∙ h)
