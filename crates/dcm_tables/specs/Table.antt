-- What the writing of a table leaves.
use Rattle.std.specs.Prelude.{◌≡◌, ℕ, List, [], ◌++◌, Bool, true, Result, Err, codes, map, flat_map, if◌then◌else◌}
use Rattle.std.specs.Io.KnownBytes.{append_known}
use Rattle.dcm_base.specs.declared.tag.Tag.{Tag}
use Rattle.dcm_devices.specs.declared.device.WriteFailed.{WriteFailed}
use Rattle.dcm_devices.specs.Device.{AppendsFront}
use Rattle.dcm_devices.specs.Writing.{Writer}
use Rattle.dcm_files.specs.Devices.{MayDo}
use Rattle.dcm_table.specs.declared.column.Column.{Column}
use Rattle.dcm_table.specs.declared.quoted.TextForm.{TextForm}
use Rattle.dcm_table.specs.Quoted.{quoted}
use Rattle.dcm_table.specs.Row.{header_cell, newline}
use Rattle.dcm_table_words.specs.Table.{Name}
use Rattle.dcm_cli.specs.Calls.{Reader}
use Rattle.dcm_cli.specs.Change.{Change}
use Rattle.dcm_cli.specs.ErrorLines.{Reports}
use Rattle.dcm_each.specs.Each.{Work, DoesName, DoesAll}
use Rattle.dcm_tables.specs.Deciding.{DoesRow}

-- what is done with a file: its row, into an output. A file that cannot be opened has none
abbrev pub rows_into : {I W : Type 0} → Reader I → Writer W → List Tag → TextForm → Work I W
rows_into r w columns form = record {
  does = λ name errors from to before result after.
      DoesRow r w columns form name errors from to before.device result after;
  passes = λ from to. to ≡ from;
}

-- the header: `File` and the text above each column
abbrev pub header_of_columns : List Column → List ℕ
header_of_columns columns = quoted (codes "File") ++ (flat_map header_cell columns ++ newline)

abbrev pub header_bytes : (has_header : Bool) → List Column → List ℕ
header_bytes has_header columns = if has_header then header_of_columns columns else []

-- the header was written, where there is one, and then all names were done; or the output failed with a beginning of the
-- header, and nothing was opened
pub data WritesTable {S I O W : Type 0} (may : MayDo S I O) (r : Reader I) (w : Writer W) (columns : List Column)
    (form : TextForm) (has_header : Bool) (names : List Name) (errors : Change) (from to : W) (before : S)
    (result : Result ℕ WriteFailed) (after : S) : Type 0 where
  headed : (mid : W) → w.contents mid ≡ append_known (w.contents from) (header_bytes has_header columns)
      → w.has_failed mid ≡ w.has_failed from
      → DoesAll (DoesName may r (rows_into r w (map (λ (c : Column). c.tag) columns) form)) names errors mid to before
      result after → WritesTable may r w columns form has_header names errors from to before result after
  not_headed : (failure : WriteFailed)
      → AppendsFront (w.contents from) (w.contents to) (header_bytes has_header columns) → w.has_failed to ≡ true
      → Reports errors [] → after ≡ before → result ≡ Err failure
      → WritesTable may r w columns form has_header names errors from to before result after
