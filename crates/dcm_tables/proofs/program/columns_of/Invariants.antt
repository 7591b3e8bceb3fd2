use Rattle.std.proofs.Common.{◌≡◌, ◌≤◌, length, map, take}
use Rattle.dcm_table.specs.Columns.{list_of, COLUMNS_LIMIT}
use Rattle.dcm_table_words.specs.Columns.{column_as}
use Rattle.dcm_tables.specs.TableProgram.{column_of}
use Rattle.dcm_tables.proofs.program.columns_of.Given as goal

-- the columns so far, and the most there are
abbrev pub invariant-loop-column : goal.invariant-loop-column
invariant-loop-column l = record {
  seen : list_of l.columns ≡ map column_of (map column_as (take l.column-index l.column-items));
  fits : length l.column-items ≤ COLUMNS_LIMIT;
}
