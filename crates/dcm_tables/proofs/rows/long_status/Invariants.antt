use Rattle.std.proofs.Common.{◌≡◌, take, drop, []}
use Rattle.dcm_tables.specs.Rows.{long_tags}
use Rattle.dcm_tables.proofs.rows.long_status.Given as goal

-- no column so far is reported
abbrev pub invariant-loop-column : goal.invariant-loop-column
invariant-loop-column l = record {
  rest : long_tags [] l.cells.slots ≡ long_tags (take l.column l.cells.slots) (drop l.column l.cells.slots);
}
