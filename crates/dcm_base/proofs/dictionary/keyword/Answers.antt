use Rattle.std.proofs.Common.{ap, ◌∙◌, sym}
use Rattle.std.specs.Prelude.{option_map}
use Rattle.dcm_base.specs.declared.dictionary.Dictionary.TheVariants.{Extract}
use Rattle.dcm_base.proofs.Dictionaries.Items.{item_called}
use Rattle.dcm_base.proofs.Dictionaries.KeywordLengths.{keyword_fits}
use Rattle.dcm_base.proofs.dictionary.keyword.Goals as goal

pub returns-in-Some-element-clause-within : goal.returns-in-Some-element-clause-within
returns-in-Some-element-clause-within c =
    let row = c.in-Some-element.row in
    keyword_fits Extract c.args.tag (row.0, row.1.now) (sym (ap (option_map (λ r. (r.0, r.1.now))) c.in-Some-element.is) ∙ c.element.ensures)

-- an item or a delimiter
pub returns-in-Some-clause-value : goal.returns-in-Some-clause-value
returns-in-Some-clause-value c =
    let item = c.in-Some.ensures.item in
    item.2 ∙ sym (item_called Extract c.args.tag item.0 item.1)
