use Rattle.std.proofs.Common.{◌≡◌, ◌≤◌, ◌-◌, List, drop, take, length, map}
use Rattle.std.specs.Prelude.{filter_map}
use Rattle.dcm_table_words.specs.Table.{Column, columns_after, column_said}
use Rattle.dcm_table_words.specs.Columns.{column_as}
use Rattle.dcm_table_words.specs.declared.saying.Tool.TheVariants.{Table}
use Rattle.dcm_table_words.specs.Said.{sayings_of}
use Rattle.dcm_table_words.proofs.Columns.{after_columns}
use Rattle.dcm_table_words.proofs.plan.columns_in.Given as goal

-- the columns so far, of which the first are kept
abbrev pub invariant-loop-saying : goal.invariant-loop-saying
invariant-loop-saying l = record {
  read : List Column;
  same : columns_after 0 (filter_map column_said (sayings_of Table l.words)) ≡ after_columns read (columns_after l.number (filter_map column_said (sayings_of Table (drop l.at l.words))));
  counted : length read ≡ l.number;
  kept : map column_as l.columns.items ≡ take 64 read;
  few : l.number ≤ l.at;
}

abbrev pub decreases-loop-saying : goal.decreases-loop-saying
decreases-loop-saying l = length l.words - l.at
