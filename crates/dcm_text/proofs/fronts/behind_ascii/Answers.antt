use Rattle.std.proofs.Common.{◌≡◌, ◌≤◌, List, ℕ, true, take, ap, sym, ◌∙◌, arith, subst}
use Rattle.std.specs.List.{list_all}
use Rattle.std.proofs.lemmas.List.{take-take, length-take}
use Rattle.dcm_text.specs.Ascii.{is_ascii_byte, ascii_size}
use Rattle.dcm_text.specs.Fronts.{AreBehind}
use Rattle.dcm_text.proofs.Ahead.{none_behind, ascii_behind}
use Rattle.dcm_text.proofs.AsciiFronts.{ascii_front, size_within}
use Rattle.dcm_text.proofs.fronts.behind_ascii.Goals as goal

pub returns-then-text-lt-LANES-clause-behind : goal.returns-then-text-lt-LANES-clause-behind
returns-then-text-lt-LANES-clause-behind c = none_behind c.args.text.now

pub returns-clause-behind : goal.returns-clause-behind
returns-clause-behind c =
    let text : List ℕ = c.args.text.now in
    let n : ℕ = c.ascii_of_eight.result in
    let is : n ≡ ascii_size (take 8 text) = c.ascii_of_eight.ensures in
    let few : n ≤ 8 = omega (arith, is, size_within (take 8 text), length-take 8 text) in
    let shown : list_all is_ascii_byte (take n text) ≡ true =
    ap (list_all is_ascii_byte) (sym (take-take n 8 text few))
    ∙ ap (λ (k : ℕ). list_all is_ascii_byte (take k (take 8 text))) is ∙ ascii_front (take 8 text) in
    subst (λ (rest : List ℕ). AreBehind text rest) (sym c.split_at.ensures.back) (ascii_behind n text shown)
