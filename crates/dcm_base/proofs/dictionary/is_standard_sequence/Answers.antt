use Rattle.std.proofs.Common.{refl, sym, ap, ◌∙◌, ◌<◌, Bool, List, ℕ, Some, None, Option, arith}
use Rattle.std.specs.Option.{option_map_or}
use Rattle.dcm_base.specs.declared.dictionary.Dictionary.TheVariants.{Standard}
use Rattle.dcm_base.specs.declared.vr.Vr.{Vr}
use Rattle.dcm_base.specs.declared.vr.Vr.TheVariants.{UN}
use Rattle.dcm_base.specs.Tables.Representation.{is_sequence}
use Rattle.dcm_base.specs.Tables.Dictionary.{elements_in, element_in, keywords, numbered}
use Rattle.dcm_base.proofs.Dictionaries.Entries.{entries_ascend, element_is}
use Rattle.dcm_base.proofs.Dictionaries.Private.{private_unlisted}
use Rattle.dcm_base.proofs.Dictionaries.Sequences.{no_other}
use Rattle.dcm_base.proofs.dictionary.is_standard_sequence.Goals as goal

abbrev is_one : Option (Vr × List ℕ) → Bool
is_one row = is_sequence (option_map_or (λ e. e.0) row UN)

-- the table's numbers ascend
pub entry_of-requires-clause-ascending : goal.entry_of-requires-clause-ascending
entry_of-requires-clause-ascending c = entries_ascend c.entries.result.now c.entries.ensures

pub returns-in-SQ : goal.returns-in-SQ
unfolding element_in
returns-in-SQ c =
    ap is_sequence (sym c.in-SQ.is)
    ∙ ap is_one (element_is keywords _ c.number.result (Some c.in-Some.entry.now) refl c.entries.ensures c.in-Some.ensures
    ∙ ap (numbered (elements_in Standard)) c.number.ensures)

pub returns-in_default : goal.returns-in_default
unfolding element_in
returns-in_default c =
    sym (no_other c.in-Some.entry.now.1 c.in_default.not-SQ)
    ∙ ap is_one (element_is keywords _ c.number.result (Some c.in-Some.entry.now) refl c.entries.ensures c.in-Some.ensures
    ∙ ap (numbered (elements_in Standard)) c.number.ensures)

pub returns-in-None : goal.returns-in-None
unfolding element_in
returns-in-None c =
    ap is_one (element_is keywords _ c.number.result None refl c.entries.ensures c.in-None.ensures
    ∙ ap (numbered (elements_in Standard)) c.number.ensures)

-- a private tag is not in the table
pub returns-then-is_private : goal.returns-then-is_private
returns-then-is_private c =
    let small : c.args.tag.element < 65536 = omega (arith, c.well_formed) in
    ap is_one (private_unlisted c.args.tag small (sym c.is_private.ensures ∙ c.if-is_private.true))
