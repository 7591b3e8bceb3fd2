-- What pieces say, one after another.
use Rattle.std.proofs.Common.{◌≡◌, ◌∙◌, ap, ℕ, ◌+◌, List, ◌∷◌, Some, false, arith}
use Rattle.dcm_lemmas.proofs.Choice.{if_false}
use Rattle.dcm_tree_words.specs.TreeWords.{Piece, width}
use Rattle.dcm_tree_words.specs.Trees.{names_no_part, unfit_from}

pub fit_next : (at next : ℕ) (p : Piece) (all ps : List Piece) → all ≡ p ∷ ps → names_no_part p ≡ false → next ≡ at + width p → unfit_from (at + 2) all ≡ unfit_from (next + 2) ps
fit_next at next p all ps is so place =
    let n : at + 2 + width p ≡ next + 2 = omega (arith, place) in
    ap (unfit_from (at + 2)) is ∙ if_false (names_no_part p) (Some (at + 2)) (unfit_from (at + 2 + width p) ps) so ∙ ap (λ n. unfit_from n ps) n
