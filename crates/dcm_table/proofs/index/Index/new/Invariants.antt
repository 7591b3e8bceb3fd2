use Rattle.dcm_table.proofs.Indexed.{IndexedSoFar}
use Rattle.dcm_table.proofs.index.Index.new.Given as goal

-- the columns so far are indexed
abbrev pub invariant-loop-column : goal.invariant-loop-column
invariant-loop-column l = IndexedSoFar l.index l.slots l.column
