-- What the work on a table does with files is done with rows.
use Rattle.std.proofs.Common.{◌≡◌, ◌∙◌, ap, sym, subst, ℕ, List}
use Rattle.std.specs.Prelude.{Result}
use Rattle.dcm_base.specs.declared.tag.Tag.{Tag}
use Rattle.dcm_devices.specs.declared.device.WriteFailed.{WriteFailed}
use Rattle.dcm_devices.specs.Writing.{Writer}
use Rattle.dcm_files.specs.declared.opened.Opened.{Opened}
use Rattle.dcm_files.specs.Devices.{MayDo}
use Rattle.dcm_table.specs.declared.quoted.TextForm.{TextForm}
use Rattle.dcm_table.specs.TableSink.{State, begun, cleared}
use Rattle.dcm_table_words.specs.Table.{Name}
use Rattle.dcm_cli.specs.Calls.{Reader}
use Rattle.dcm_cli.specs.Change.{Change}
use Rattle.dcm_each.specs.Each.{DoesName, DoesAll}
use Rattle.dcm_each.proofs.Mapped.{all_as}
use Rattle.dcm_tables.specs.declared.rows.TableWork.{TableWork}
use Rattle.dcm_tables.specs.Rows.{DoesFile}
use Rattle.dcm_tables.specs.Table.{rows_into}
use Rattle.dcm_tables.specs.TableWork.{work_of}
use Rattle.dcm_tables.proofs.RowDone.{row_done}

module _ {I W : Type 0} (r : Reader I) (w : Writer W) (columns : List Tag) (form : TextForm) where
  -- the cells are those of the columns, and the form is this one
  abbrev Keeps : TableWork × W → Type 0
  Keeps x = (cleared x.0.cells.now ≡ begun columns) × (x.0.form ≡ form)

  does_as : (name : List ℕ) (errors : Change) (from to : TableWork × W) (before : Opened I) (result : Result ℕ WriteFailed) (after : I)
      → Keeps from → (work_of r w).does name errors from to before result after → Keeps to × (rows_into r w columns form).does name errors from.1 to.1 before result after
  does_as name errors from to before result after keeps (does, cells, same) = (
    (cells ∙ keeps.0, same ∙ keeps.1),
    row_done r w columns form name errors from.1 to.1 before.device result after
        (subst (λ (f : TextForm). DoesFile r w (begun columns) f name errors from.1 to.1 before.device result after) keeps.1
        (subst (λ (s : State). DoesFile r w s from.0.form name errors from.1 to.1 before.device result after) keeps.0 does)),
  )

  passes_as : (from to : TableWork × W) → Keeps from → to ≡ from → Keeps to × (to.1 ≡ from.1)
  passes_as from to keeps same = (subst Keeps (sym same) keeps, ap (λ (x : TableWork × W). x.1) same)

  pub rows_done : {S O : Type 0} (may : MayDo S I O) (names : List Name) (errors : Change) (from to : TableWork × W) (before : S) (result : Result ℕ WriteFailed) (after : S)
      → Keeps from → DoesAll (DoesName may r (work_of r w)) names errors from to before result after → DoesAll (DoesName may r (rows_into r w columns form)) names errors from.1 to.1 before result after
  rows_done may names errors from to before result after keeps does =
      all_as may r (work_of r w) (rows_into r w columns form) (λ x. x.1) Keeps does_as passes_as names errors from to before result after keeps does
