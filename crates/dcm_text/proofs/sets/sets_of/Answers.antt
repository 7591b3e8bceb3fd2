use Rattle.std.proofs.Common.{◌≡◌, ℕ, ◌+◌, ◌<◌, ◌≤◌, Bool, List, [], length, take, drop, sym, ap, ◌∙◌, drop-drop}
use Rattle.std.specs.Prelude.{◌==◌, fold, cond}
use Rattle.std.proofs.lemmas.Bool.{lt-ltb, le-ltb}
use Rattle.dcm_text.specs.declared.sets.Sets.{Sets}
use Rattle.dcm_text.specs.Sets.{sets_of, of_terms, of_first, with_term, terms, terms_of}
use Rattle.dcm_text.proofs.Terms.{parts_first, parts_last}
use Rattle.dcm_text.proofs.sets.sets_of.Goals as goal

long : (value : List ℕ) → 512 < length value → sets_of value ≡ of_first []
unfolding sets_of
long value l = ap (λ (t : Bool). cond t (of_first []) (of_terms (terms_of value))) (lt-ltb 512 (length value) l)

short : (value : List ℕ) → length value ≤ 512 → sets_of value ≡ of_terms (terms_of value)
unfolding sets_of
short value l = ap (λ (t : Bool). cond t (of_first []) (of_terms (terms_of value))) (le-ltb 512 (length value) l)

pub returns-then-value-gt-LONGEST : goal.returns-then-value-gt-LONGEST
unfolding terms
returns-then-value-gt-LONGEST c = sym (long c.args.value.now c.if-value-gt-LONGEST.true)

pub returns-in-None : goal.returns-in-None
returns-in-None c =
    c.of_first.ensures
    ∙ sym (short c.args.value.now c.if-value-gt-LONGEST.false
    ∙ ap of_terms (parts_last (λ b. b == 92) c.args.value.now (sym c.backslash.ensures ∙ c.in-None.is)))

pub returns-in-Some : goal.returns-in-Some
returns-in-Some c =
    let value : List ℕ = c.args.value.now in
    let next : drop (c.in-Some.at + 1) value ≡ c.split_at-in-Some.result.1.now =
    sym (c.split_at-in-Some.ensures.back ∙ ap (drop 1) c.split_at.ensures.back ∙ drop-drop 1 c.in-Some.at value) in
    let first : c.of_first-in-Some.result ≡ of_first (take c.in-Some.at value) =
    c.of_first-in-Some.ensures ∙ ap of_first c.split_at.ensures.front in
    c.with_terms.ensures
    ∙ ap (λ (s : Sets). fold with_term s (terms_of c.split_at-in-Some.result.1.now)) first
    ∙ ap (λ (r : List ℕ). fold with_term (of_first (take c.in-Some.at value)) (terms_of r)) (sym next)
    ∙ sym (short value c.if-value-gt-LONGEST.false
    ∙ ap of_terms (parts_first (λ b. b == 92) value c.in-Some.at (sym c.in-Some.ensures)))
