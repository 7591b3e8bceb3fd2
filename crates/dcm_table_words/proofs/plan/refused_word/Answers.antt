use Rattle.std.proofs.Common.{◌∙◌, sym}
use Rattle.dcm_table_words.proofs.Sayings.{refused_later}
use Rattle.dcm_table_words.proofs.plan.refused_word.Goals as goal

pub loop-saying-preserved : goal.loop-saying-preserved
loop-saying-preserved c =
    c.loop-saying.invariant ∙ refused_later c.loop-saying.at c.in-Some.next _ _ _ c.in-Some.ensures.said (sym c.in_default-word_fault.ensures) c.in-Some.ensures.place
