use Rattle.std.proofs.Common.{ap, ◌∙◌, sym, subst, ◌≤◌, ℕ, List, length}
use Rattle.std.specs.Prelude.{option_map}
use Rattle.dcm_base.proofs.Dictionaries.Items.{item_called}
use Rattle.dcm_base.proofs.Dictionaries.KeywordLengths.{keyword_fits, ambiguous_fits}
use Rattle.dcm_base.proofs.dictionary.keyword_in.Goals as goal

pub returns-in-Some-element_in-clause-within : goal.returns-in-Some-element_in-clause-within
returns-in-Some-element_in-clause-within c =
    let row = c.in-Some-element_in.row in
    keyword_fits c.args.dictionary c.args.tag (row.0, row.1.now) (sym (ap (option_map (λ r. (r.0, r.1.now))) c.in-Some-element_in.is) ∙ c.element_in.ensures)

pub returns-in-Some-ambiguous_in-clause-within : goal.returns-in-Some-ambiguous_in-clause-within
returns-in-Some-ambiguous_in-clause-within c =
    let row = c.in-Some-ambiguous_in.row in
    subst (λ (k : List ℕ). length k ≤ 64) (sym c.as_bytes-in-Some-ambiguous_in.ensures.value)
    (ambiguous_fits c.args.dictionary c.args.tag (row.0, row.1.now) (sym (ap (option_map (λ r. (r.0, r.1.now))) c.in-Some-ambiguous_in.is) ∙ c.ambiguous_in.ensures))

-- an item or a delimiter
pub returns-in-Some-clause-value : goal.returns-in-Some-clause-value
returns-in-Some-clause-value c =
    let item = c.in-Some.ensures.item in
    c.as_bytes.ensures.value ∙ item.2 ∙ sym (item_called c.args.dictionary c.args.tag item.0 item.1)
