use Rattle.std.proofs.Common.{drop, add-one, drop-drop, sym, ◌∙◌, ap, arith}
use Rattle.dcm_edits.proofs.Words.Cuts.{cut_first, cut_nowhere, cut_is}
use Rattle.dcm_edits.proofs.path.cut_at.Goals as goal

pub returns-in-Some : goal.returns-in-Some
returns-in-Some c =
    let at = c.in-Some.at in
    let whole = c.args.text.now in
    let place = c.in-Some.ensures.0 in
    let back = c.split_at-in-Some.ensures.back ∙ ap (drop 1) c.split_at.ensures.back ∙ drop-drop 1 at whole ∙ ap (λ k. drop k whole) (add-one at) in
    cut_first c.args.byte whole at place.high (λ j l. place.before j (omega arith) l) c.in-Some.ensures.1
    ∙ cut_is _ _ _ _ (sym c.split_at.ensures.front) (sym back)

pub returns-in-None : goal.returns-in-None
returns-in-None c = cut_nowhere c.args.byte c.args.text.now (λ j l. c.in-None.ensures j (omega arith) l)
