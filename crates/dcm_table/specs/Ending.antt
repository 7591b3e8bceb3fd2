-- How the reading of a file ends, for its row.
use Rattle.std.specs.Prelude.{Result, Ok, Err}
use Rattle.dcm_base.specs.declared.fault.Fault.{Fault}
use Rattle.dcm_base.specs.declared.fault.Fault.TheVariants.{NotAscending}
use Rattle.dcm_base.specs.declared.fault.Stop.{Stop}
use Rattle.dcm_table.specs.declared.ending.RowEnd.{RowEnd}
use Rattle.dcm_table.specs.declared.ending.RowEnd.TheVariants.{Whole, Decided, Refused}

-- the mark that a row is decided: no head of a table is refused for its order, so this fault comes of nothing else
abbrev pub DECIDED : Fault
DECIDED = NotAscending

abbrev pub end_by : Fault → Stop → RowEnd
end_by NotAscending stop = Decided
end_by fault stop = Refused stop

-- how a reading ends that was complete, or was stopped
abbrev pub row_end : Result (Unit {0}) Stop → RowEnd
row_end (Ok done) = Whole
row_end (Err stop) = end_by stop.fault stop
