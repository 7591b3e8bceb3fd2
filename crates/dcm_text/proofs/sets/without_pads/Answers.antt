use Rattle.std.proofs.Common.{sym, ◌∙◌}
use Rattle.dcm_text.proofs.Terms.{pad_cut, no_pad_cut}
use Rattle.dcm_text.proofs.sets.without_pads.Goals as goal

pub returns-then-not-is_pad : goal.returns-then-not-is_pad
returns-then-not-is_pad c =
    sym (no_pad_cut c.loop-text.text.now c.in-len1-up.len_at_least (sym c.is_pad.ensures ∙ c.if-not-is_pad.true))
    ∙ c.loop-text.invariant

pub loop-text-preserved : goal.loop-text-preserved
loop-text-preserved c =
    pad_cut c.loop-text.text.now c.in-len1-up.len_at_least (sym c.is_pad.ensures ∙ c.if-not-is_pad.false)
    ∙ c.loop-text.invariant
