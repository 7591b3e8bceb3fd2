use Rattle.std.proofs.Common.{◌≡◌, ℕ, ◌+◌, List, Bool, false, take, drop, sym, ap, ◌∙◌, drop-drop}
use Rattle.std.specs.Prelude.{◌==◌, ◌&&◌}
use Rattle.std.specs.List.{list_all}
use Rattle.dcm_lemmas.proofs.Truth.{and_true}
use Rattle.dcm_text.specs.Sets.{is_term, terms_of}
use Rattle.dcm_text.proofs.Terms.{parts_first, parts_last}
use Rattle.dcm_text.proofs.sets.are_terms.Goals as goal

pub returns-then-not-is_term : goal.returns-then-not-is_term
returns-then-not-is_term c =
    let rest : List ℕ = c.loop-at.rest.now in
    let term : is_term (take c.in-Some.at rest) ≡ false =
    sym (c.is_term.ensures ∙ ap is_term c.split_at.ensures.front) ∙ c.if-not-is_term.true
    in
    sym (ap (λ (t : Bool). t && list_all is_term (terms_of (drop (c.in-Some.at + 1) rest))) term)
    ∙ sym (ap (list_all is_term) (parts_first (λ b. b == 92) rest c.in-Some.at (sym c.in-Some.ensures)))
    ∙ c.loop-at.invariant

pub loop-at-preserved : goal.loop-at-preserved
loop-at-preserved c =
    let rest : List ℕ = c.loop-at.rest.now in
    let next : drop (c.in-Some.at + 1) rest ≡ c.split_at-in-Some.result.1.now =
    sym (c.split_at-in-Some.ensures.back ∙ ap (drop 1) c.split_at.ensures.back ∙ drop-drop 1 c.in-Some.at rest) in
    ap (λ (r : List ℕ). list_all is_term (terms_of r)) (sym next)
    ∙ sym (ap (λ (t : Bool). t && list_all is_term (terms_of (drop (c.in-Some.at + 1) rest))) (sym (c.is_term.ensures ∙ ap is_term c.split_at.ensures.front) ∙ c.if-not-is_term.false))
    ∙ sym (ap (list_all is_term) (parts_first (λ b. b == 92) rest c.in-Some.at (sym c.in-Some.ensures)))
    ∙ c.loop-at.invariant

pub returns : goal.returns
returns c =
    let rest : List ℕ = c.loop-at.rest.now in
    c.is_term-2.ensures
    ∙ sym (and_true (is_term rest))
    ∙ sym (ap (list_all is_term) (parts_last (λ b. b == 92) rest (sym c.backslash.ensures ∙ c.in_default.is)))
    ∙ c.loop-at.invariant
