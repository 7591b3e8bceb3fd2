use Rattle.std.proofs.Common.{◌∙◌, sym, ap, List, ℕ, ◌++◌, ◌∷◌, [], ◌==◌}
use Rattle.std.proofs.lemmas.Bool.{ne_eqb}
use Rattle.dcm_lemmas.proofs.Choice.{if_true, if_false}
use Rattle.dcm_lemmas.proofs.Numbers.{equal_is_true}
use Rattle.dcm_json.specs.TextState.{ends_in_nul}
use Rattle.dcm_json.specs.Texts.{without_nul}
use Rattle.dcm_json.proofs.Decoding.{nul_at_end, nul_before}
use Rattle.dcm_json.proofs.text_value.before_nul.Goals as goal

pub returns-then-last-eq0-clause-front : goal.returns-then-last-eq0-clause-front
returns-then-last-eq0-clause-front c =
    let front : List ℕ = c.in-Some.front.now in
    let last : ℕ = c.in-Some.last.now in
    sym (ap without_nul c.in-Some.ensures.cases.0 ∙ nul_before front last ∙ if_true (last == 0) front (front ++ last ∷ []) (equal_is_true last 0 c.if-last-eq0.true))

pub returns-then-last-eq0-clause-nul : goal.returns-then-last-eq0-clause-nul
returns-then-last-eq0-clause-nul c =
    let front : List ℕ = c.in-Some.front.now in
    let last : ℕ = c.in-Some.last.now in
    sym (ap ends_in_nul c.in-Some.ensures.cases.0 ∙ nul_at_end front last ∙ equal_is_true last 0 c.if-last-eq0.true)

pub returns-else-last-eq0-clause-front : goal.returns-else-last-eq0-clause-front
returns-else-last-eq0-clause-front c =
    let front : List ℕ = c.in-Some.front.now in
    let last : ℕ = c.in-Some.last.now in
    sym (ap without_nul c.in-Some.ensures.cases.0 ∙ nul_before front last ∙ if_false (last == 0) front (front ++ last ∷ []) (ne_eqb last 0 c.if-last-eq0.false) ∙ sym c.in-Some.ensures.cases.0)

pub returns-else-last-eq0-clause-nul : goal.returns-else-last-eq0-clause-nul
returns-else-last-eq0-clause-nul c =
    let front : List ℕ = c.in-Some.front.now in
    let last : ℕ = c.in-Some.last.now in
    sym (ap ends_in_nul c.in-Some.ensures.cases.0 ∙ nul_at_end front last ∙ ne_eqb last 0 c.if-last-eq0.false)
