use Rattle.dcm_base.proofs.Dictionaries.ByNumber.{rows_ascend, rows_placed}
use Rattle.dcm_base.proofs.dictionary.extract.element.Goals as goal

-- the table's numbers ascend
pub numbered-requires-clause-ascending : goal.numbered-requires-clause-ascending
numbered-requires-clause-ascending c = rows_ascend c.rows.result.now c.rows.ensures

pub numbered-requires-clause-placed : goal.numbered-requires-clause-placed
numbered-requires-clause-placed c = rows_placed c.rows.result.now c.rows.ensures
