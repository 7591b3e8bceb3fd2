use Rattle.std.proofs.Common.{refl, sym, ap, ◌∙◌, ◌==◌, ◌<◌, Some, arith}
use Rattle.dcm_base.specs.declared.dictionary.Dictionary.TheVariants.{Standard}
use Rattle.dcm_base.specs.Tables.Dictionary.{elements_in, element_in, fits, keywords, numbered}
use Rattle.dcm_base.proofs.Dictionaries.Entries.{entries_ascend, all_fit, found_passes, element_is}
use Rattle.dcm_base.proofs.Dictionaries.Private.{private_unlisted}
use Rattle.dcm_base.proofs.dictionary.standard_element.Goals as goal

-- the table's numbers ascend
pub entry_of-requires-clause-ascending : goal.entry_of-requires-clause-ascending
entry_of-requires-clause-ascending c = entries_ascend c.entries.result.now c.entries.ensures

-- and its keywords lie within the text
pub keyword_of-requires : goal.keyword_of-requires
keyword_of-requires c =
    found_passes (λ e. e.0 == c.number.result) (fits c.keywords.result.now) c.entries.result.now c.in-Some.entry.now
    (all_fit _ _ c.keywords.ensures c.entries.ensures) (sym c.in-Some.ensures)

pub returns-in-Some : goal.returns-in-Some
unfolding element_in
returns-in-Some c =
    ap (λ k. Some (c.in-Some.entry.now.1, k)) c.keyword_of.ensures
    ∙ element_is _ _ c.number.result (Some c.in-Some.entry.now) c.keywords.ensures c.entries.ensures c.in-Some.ensures
    ∙ ap (numbered (elements_in Standard)) c.number.ensures

pub returns-in-None : goal.returns-in-None
unfolding element_in
returns-in-None c =
    element_is keywords _ c.number.result _ refl c.entries.ensures c.in-None.ensures
    ∙ ap (numbered (elements_in Standard)) c.number.ensures

-- a private tag is not in the table
pub returns-then-is_private : goal.returns-then-is_private
returns-then-is_private c =
    let small : c.args.tag.element < 65536 = omega (arith, c.well_formed) in
    private_unlisted c.args.tag small (sym c.is_private.ensures ∙ c.if-is_private.true)
