use Rattle.std.proofs.Common.{◌≡◌, ◌-◌, ◌++◌, ℕ, List, true, length, take, rules, ap, sym, ◌∙◌, arith}
use Rattle.std.proofs.lemmas.List.{take-append-drop, length-append}
use Rattle.std.specs.Prelude.{encode_utf8_all}
use Rattle.dcm_text.proofs.Ahead.{are_passed}
use Rattle.dcm_text.proofs.text_pieces.TextPieces.shown_size.Goals as goal

pub returns-clause-passed : goal.returns-clause-passed
returns-clause-passed c =
    let p = c.args.self.now in
    let window : List ℕ = c.split_at.result.0.now in
    let others : List ℕ = c.split_at.result.1.now in
    let after : List ℕ = c.behind_all_shown.result.now in
    let is : c.is_utf8.result ≡ true = search rules in
    let b = c.behind_all_shown.ensures in
    let whole : p.rest.now ≡ window ++ others =
    sym (ap (λ (x : List ℕ). x ++ others) c.split_at.ensures.front
    ∙ ap (λ (x : List ℕ). take c.min.result p.rest.now ++ x) c.split_at.ensures.back
    ∙ take-append-drop c.min.result p.rest.now) in
    are_passed p.sets p.kind p.halves p.rest.now window others after (length window - length after)
    (c.is_utf8.ensures.utf8 is) (c.is_utf8.ensures.start is) whole b
    (omega (arith, ap length b.whole, length-append (encode_utf8_all b.characters) after))
