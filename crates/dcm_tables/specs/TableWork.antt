-- What does the files of a table.
use Rattle.std.specs.Prelude.{◌≡◌}
use Rattle.dcm_devices.specs.Writing.{Writer}
use Rattle.dcm_table.specs.TableSink.{cleared}
use Rattle.dcm_cli.specs.Calls.{Reader}
use Rattle.dcm_each.specs.Each.{Work}
use Rattle.dcm_tables.specs.declared.rows.TableWork.{TableWork}
use Rattle.dcm_tables.specs.Rows.{DoesFile}

-- its cells are emptied before each file, and nothing else goes from one to the next
abbrev pub work_of : {I W : Type 0} → Reader I → Writer W → Work I (TableWork × W)
work_of r w = record {
  does = λ name errors from to before result after.
      DoesFile r w (cleared from.0.cells.now) from.0.form name errors from.1 to.1 before.device result after
      × (cleared to.0.cells.now ≡ cleared from.0.cells.now) × (to.0.form ≡ from.0.form);
  passes = λ from to. to ≡ from;
}
