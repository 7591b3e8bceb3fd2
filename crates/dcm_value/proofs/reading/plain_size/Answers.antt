use Rattle.std.proofs.Common.{sym, ◌∙◌}
use Rattle.dcm_value.proofs.ReadBack.PlainTexts.{cut_where, cut_nowhere}
use Rattle.dcm_value.proofs.reading.plain_size.Goals as goal

pub returns-in-Some-clause-value : goal.returns-in-Some-clause-value
returns-in-Some-clause-value c = cut_where c.args.text.now c.in-Some.at (sym c.plain_end.ensures ∙ c.in-Some.is)

pub returns-in-None-clause-value : goal.returns-in-None-clause-value
returns-in-None-clause-value c = cut_nowhere c.args.text.now (sym c.plain_end.ensures ∙ c.in-None.is)
