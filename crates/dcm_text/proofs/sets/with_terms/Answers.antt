use Rattle.std.proofs.Common.{◌≡◌, ℕ, ◌+◌, List, take, drop, sym, ap, ◌∙◌, drop-drop}
use Rattle.std.specs.Prelude.{◌==◌, fold}
use Rattle.dcm_text.specs.Sets.{with_term, terms_of}
use Rattle.dcm_text.specs.declared.sets.Sets.{Sets}
use Rattle.dcm_text.proofs.Terms.{parts_first, parts_last}
use Rattle.dcm_text.proofs.sets.with_terms.Goals as goal

pub loop-at-preserved : goal.loop-at-preserved
loop-at-preserved c =
    let rest : List ℕ = c.loop-at.rest.now in
    let sets : Sets = c.loop-at.sets in
    let next : drop (c.in-Some.at + 1) rest ≡ c.split_at-in-Some.result.1.now =
    sym (c.split_at-in-Some.ensures.back ∙ ap (drop 1) c.split_at.ensures.back ∙ drop-drop 1 c.in-Some.at rest) in
    let term : c.with_term-sets.result ≡ with_term sets (take c.in-Some.at rest) =
    c.with_term-sets.ensures ∙ ap (with_term sets) c.split_at.ensures.front in
    ap (λ (s : Sets). fold with_term s (terms_of c.split_at-in-Some.result.1.now)) term
    ∙ ap (λ (r : List ℕ). fold with_term (with_term sets (take c.in-Some.at rest)) (terms_of r)) (sym next)
    ∙ sym (ap (fold with_term sets) (parts_first (λ b. b == 92) rest c.in-Some.at (sym c.in-Some.ensures)))
    ∙ c.loop-at.invariant

pub returns : goal.returns
returns c =
    let rest : List ℕ = c.loop-at.rest.now in
    c.with_term.ensures
    ∙ sym (ap (fold with_term c.loop-at.sets) (parts_last (λ b. b == 92) rest (sym c.backslash.ensures ∙ c.in_default.is)))
    ∙ c.loop-at.invariant
