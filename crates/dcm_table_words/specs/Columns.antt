-- What a function made of a word that means a column.
use Rattle.std.specs.Prelude.{◌≡◌, Result, Ok, Err}
use Rattle.dcm_base.specs.declared.fault.EditRefusal.{EditRefusal}
use Rattle.dcm_table_words.specs.declared.column.TableColumn.{TableColumn}
use Rattle.dcm_table_words.specs.Table.{Column}

abbrev pub column_as : TableColumn → Column
column_as c = record { tag = c.tag; number = c.number }

abbrev pub ColumnAs : Result TableColumn EditRefusal → Result Column EditRefusal → Type 0
ColumnAs (Ok c) meant = meant ≡ Ok (column_as c)
ColumnAs (Err refusal) meant = meant ≡ Err refusal
