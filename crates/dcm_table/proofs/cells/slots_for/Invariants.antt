use Rattle.std.proofs.Common.{◌≡◌, take, map}
use Rattle.dcm_table.specs.declared.column.Column.{Column}
use Rattle.dcm_table.specs.Slots.{slots_of}
use Rattle.dcm_table.specs.TableSink.{begun_slots}
use Rattle.dcm_table.proofs.cells.slots_for.Given as goal

-- the columns so far have slots
abbrev pub invariant-loop-column : goal.invariant-loop-column
invariant-loop-column l = slots_of l.slots.items ≡ begun_slots (map (λ (c : Column). c.tag) (take l.column-index l.columns))
