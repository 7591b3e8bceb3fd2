-- What is done with a file, by its bytes.
use Rattle.std.proofs.Common.{◌∙◌, ap, sym, subst, ℕ, List}
use Rattle.std.specs.Prelude.{Result, Ok}
use Rattle.dcm_base.specs.declared.tag.Tag.{Tag}
use Rattle.dcm_devices.specs.declared.device.WriteFailed.{WriteFailed}
use Rattle.dcm_devices.specs.Writing.{Writer}
use Rattle.dcm_table.specs.declared.quoted.TextForm.{TextForm}
use Rattle.dcm_table.specs.Parts.{Part, AppendsParts, AppendsFrontOfParts}
use Rattle.dcm_table.specs.Shown.{held_by}
use Rattle.dcm_table.specs.TableSink.{begun}
use Rattle.dcm_cli.specs.Change.{Change}
use Rattle.dcm_cli.specs.ErrorLines.{Reports}
use Rattle.dcm_cli.specs.InputCalls.{Reader}
use Rattle.dcm_tables.specs.declared.file.FileEnd.TheVariants.{Read, Unread}
use Rattle.dcm_tables.specs.Deciding.{DoesRow, row_written, row_unwritten, row_unread}
use Rattle.dcm_tables.specs.Rows.{DoesFile, written, not_written, not_read}
use Rattle.dcm_tables.proofs.RowReads.{row_comes}
use Rattle.dcm_tables.proofs.SettledRows.{row_settled, lines_settled, status_settled}

pub row_done : {R W : Type 0} (r : Reader R) (w : Writer W) (columns : List Tag) (form : TextForm) (name : List ℕ) (errors : Change) (from to : W) (before : R) (result : Result ℕ WriteFailed) (after : R)
    → DoesFile r w (begun columns) form name errors from to before result after → DoesRow r w columns form name errors from to before result after
row_done r w columns form name errors from to before result after (written cells end reads went failed reports is) =
    row_written (held_by cells) end (row_comes r columns before after cells (Read end) reads)
    (subst (λ (parts : List Part). AppendsParts (w.contents from) (w.contents to) parts) (sym (row_settled form name cells.slots)) went)
    failed
    (subst (Reports errors) (sym (lines_settled form name cells.slots cells.unknown end)) reports)
    (is ∙ ap (λ (status : ℕ). Ok status) (sym (status_settled cells.slots end)))
row_done r w columns form name errors from to before result after (not_written cells end failure reads went failed reports is) =
    row_unwritten (held_by cells) end failure (row_comes r columns before after cells (Read end) reads)
    (subst (λ (parts : List Part). AppendsFrontOfParts (w.contents from) (w.contents to) parts) (sym (row_settled form name cells.slots)) went)
    failed reports is
row_done r w columns form name errors from to before result after (not_read cells count reads same reports is) =
    row_unread (held_by cells) count (row_comes r columns before after cells (Unread count) reads) same reports is
