use Rattle.std.proofs.Common.{ℕ, List, Bool, false, length, sym, ap, ◌∙◌}
use Rattle.std.specs.Prelude.{cond}
use Rattle.std.specs.List.{list_all}
use Rattle.std.proofs.lemmas.Bool.{lt-ltb, le-ltb}
use Rattle.dcm_text.specs.Sets.{is_known, is_term, terms_of}
use Rattle.dcm_text.proofs.sets.is_known.Goals as goal

pub returns-then-value-gt-LONGEST : goal.returns-then-value-gt-LONGEST
unfolding is_known
returns-then-value-gt-LONGEST c =
    let value : List ℕ = c.args.value.now in
    sym (ap (λ (t : Bool). cond t false (list_all is_term (terms_of value))) (lt-ltb 512 (length value) c.if-value-gt-LONGEST.true))

pub returns : goal.returns
unfolding is_known
returns c =
    let value : List ℕ = c.args.value.now in
    c.are_terms.ensures
    ∙ sym (ap (λ (t : Bool). cond t false (list_all is_term (terms_of value))) (le-ltb 512 (length value) c.if-value-gt-LONGEST.false))
