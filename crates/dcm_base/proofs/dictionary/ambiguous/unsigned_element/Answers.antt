use Rattle.std.proofs.Common.{sym, ◌∙◌, ◌<◌, arith}
use Rattle.dcm_base.proofs.Dictionaries.ByNumber.{ambiguous_rows_ascend, ambiguous_rows_placed}
use Rattle.dcm_base.proofs.Dictionaries.Private.{private_unambiguous}
use Rattle.dcm_base.proofs.dictionary.ambiguous.unsigned_element.Goals as goal

-- the table's numbers ascend
pub numbered-requires-clause-ascending : goal.numbered-requires-clause-ascending
numbered-requires-clause-ascending c = ambiguous_rows_ascend c.rows.result.now c.rows.ensures

pub numbered-requires-clause-placed : goal.numbered-requires-clause-placed
numbered-requires-clause-placed c = ambiguous_rows_placed c.rows.result.now c.rows.ensures

-- a private tag is not in it
pub returns-then-is_private : goal.returns-then-is_private
returns-then-is_private c =
    let small : c.args.tag.element < 65536 = omega (arith, c.well_formed) in
    private_unambiguous c.args.tag small (sym c.is_private.ensures ∙ c.if-is_private.true)
