use Rattle.std.proofs.Common.{List, ℕ, ◌++◌, codes, take, ap, ◌∙◌, append_assoc}
use Rattle.std.proofs.lemmas.List.{take_min}
use Rattle.dcm_value.specs.Decoded.{cut_size}
use Rattle.dcm_value.proofs.whole_decoded.append_cut.Goals as goal

pub returns-clause-items : goal.returns-clause-items
returns-clause-items g c =
    let line : List ℕ = c.args.line.now.items in
    let display : List ℕ = c.args.display.now in
    c.append.ensures
    ∙ ap (λ (x : List ℕ). x ++ codes "...")
    (c.append_many.ensures
    ∙ ap (λ (x : List ℕ). line ++ x)
    (c.split_at.ensures.front ∙ ap (λ n. take n display) c.min.ensures ∙ take_min c.cut_size.result display
    ∙ ap (λ n. take n display) c.cut_size.ensures.value))
    ∙ append_assoc line (take (cut_size display) display) (codes "...")
