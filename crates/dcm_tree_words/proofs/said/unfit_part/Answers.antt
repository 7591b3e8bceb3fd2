use Rattle.std.proofs.Common.{◌∙◌, sym}
use Rattle.dcm_tree_words.proofs.Sayings.{fit_next}
use Rattle.dcm_tree_words.proofs.said.unfit_part.Goals as goal

pub loop-piece-preserved : goal.loop-piece-preserved
loop-piece-preserved c =
    c.loop-piece.invariant ∙ fit_next c.loop-piece.at c.in-Some.next _ _ _ c.in-Some.ensures.apart (sym c.if-names_no_part.ensures) c.in-Some.ensures.place
