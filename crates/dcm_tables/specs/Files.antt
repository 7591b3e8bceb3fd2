-- How a file is read for its row.
use Rattle.std.specs.Prelude.{◌≡◌, ℕ, List, fold, Some, None, Ok, Err}
use Rattle.dcm_base.specs.declared.syntax.Coding.{Coding}
use Rattle.dcm_base.specs.declared.fault.Stop.{Stop}
use Rattle.dcm_base.specs.declared.dictionary.Dictionary.TheVariants.{Standard}
use Rattle.dcm_base.specs.Tables.Syntax.{coding_by}
use Rattle.dcm_files.specs.Pieces.{Reader}
use Rattle.dcm_head.specs.MetaReading as meta
use Rattle.dcm_head.specs.declared.meta_read.MetaEnd.TheVariants as meta_ends
use Rattle.dcm_head.specs.Rewriting.{OfElements}
use Rattle.dcm_stream.specs.Reading.{start_of}
use Rattle.dcm_cli.specs.Pass as pass
use Rattle.dcm_cli.specs.declared.ending.Ending.{Ending}
use Rattle.dcm_cli.specs.declared.ending.Ending.TheVariants as endings
use Rattle.dcm_cli.specs.declared.ending.HeadEnding.TheVariants as heads
use Rattle.dcm_cli.specs.declared.ending.Verdict.TheVariants as verdicts
use Rattle.dcm_cli.specs.declared.head.Beginning.{Beginning}
use Rattle.dcm_table.specs.Ending.{row_end}
use Rattle.dcm_table.specs.Meta.{meta_atoms}
use Rattle.dcm_table.specs.TableSink.{State, next, writes, table_bar_of}
use Rattle.dcm_table.specs.declared.ending.RowEnd.TheVariants as rows
use Rattle.dcm_tables.specs.declared.file.FileEnd.{FileEnd}
use Rattle.dcm_tables.specs.declared.file.FileEnd.TheVariants.{Read, Unread}

-- how the reading of a file ends, by how that of its data set does
abbrev pub set_end : Ending → FileEnd
set_end (endings.Worked (verdicts.Refused stop)) = Read (row_end (Err stop))
set_end (endings.Unread read) = Unread read
set_end _ = Read (row_end (Ok tt))

-- the cells took the elements of a meta group
abbrev pub TakesMeta : meta.Reading → (before after : State) → Type 0
TakesMeta m before after = OfElements (meta.group_of m) (λ elements. after ≡ fold next before (meta_atoms elements))

-- a data set was read into the cells, by the whole dictionary, after the head of its file; the reader failed exactly
-- where that is the ending
pub record ReadsTable {R : Type 0} (r : Reader R) (before after : R) (m : meta.Reading) (b : Beginning)
    (buffer : List ℕ)
    (taken new : State) (end : FileEnd) : Type 0 where
  pub coding : Coding
  pub named : m.end ≡ Some (meta_ends.Ended coding)
  pub ending : Ending
  pub reads : pass.ReadsSet table_bar_of next writes r before after b.is_over (pass.set_bytes b buffer)
      (start_of (coding_by Standard coding).syntax m.place) taken None new None ending
  pub unread : pass.TellsUnread (r.has_failed before) (r.has_failed after) ending
  pub ends : end ≡ set_end ending

-- a file was read into emptied cells: its head, the elements of its meta group, and its data set
pub data ReadsFile {R : Type 0} (r : Reader R) (before after : R) (first new : State) (end : FileEnd) : Type 0 where
  no_set : (m : meta.Reading) (had held : List ℕ) (stop : Stop)
      → pass.HeadReads r before after m had held (Err (heads.Refused stop)) → TakesMeta m first new
      → end ≡ Read (rows.Refused stop) → ReadsFile r before after first new end
  not_read : (m : meta.Reading) (had held : List ℕ) (count : ℕ)
      → pass.HeadReads r before after m had held (Err (heads.Unread count)) → new ≡ first → end ≡ Unread count
      → ReadsFile r before after first new end
  set_read : (m : meta.Reading) (had held : List ℕ) (b : Beginning) (mid : R) (taken : State)
      → pass.HeadReads r before mid m had held (Ok b) → TakesMeta m first taken
      → ReadsTable r mid after m b held taken new end → ReadsFile r before after first new end
