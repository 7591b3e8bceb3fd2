use Rattle.std.proofs.Common.{◌≡◌, take, map}
use Rattle.dcm_table.specs.Columns as spec
use Rattle.dcm_table.specs.declared.column.Column.{Column}
use Rattle.dcm_table.proofs.column.greatest_of.Given as goal

abbrev pub invariant-loop-column : goal.invariant-loop-column
invariant-loop-column l = l.greatest ≡ spec.greatest_of (map (λ (c : Column). c.tag) (take l.column-index l.columns))
