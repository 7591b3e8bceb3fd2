use Rattle.std.proofs.Common.{◌≡◌, ◌∙◌, rules, true, false, length}
use Rattle.std.specs.Prelude.{◌==◌}
use Rattle.dcm_uid.proofs.Pseudonyms.{some_pseudonym, no_pseudonym}
use Rattle.dcm_uid.proofs.patients.pseudonym.Goals as goal

pub returns-then-not-is_empty : goal.returns-then-not-is_empty
returns-then-not-is_empty c k held =
    let named = c.patient-named.result.now in
    let some : (length named == 0) ≡ false = search rules in
    c.show_code.ensures ∙ some_pseudonym k c.args.value.now named c.code.result c.patient-named.ensures.value some (c.code.ensures k held)

pub returns-else-not-is_empty : goal.returns-else-not-is_empty
returns-else-not-is_empty c k held =
    let named = c.patient-named.result.now in
    let none : (length named == 0) ≡ true = search rules in
    c.new-out.ensures ∙ no_pseudonym k c.args.value.now named c.patient-named.ensures.value none
