-- The row of a file: what its bytes, and nothing else, give of the columns of a table.
use Rattle.std.specs.Prelude.{◌≡◌, ℕ, List, take, drop, length, bytes_eq, Bool, true, false, ◌||◌, Some}
use Rattle.dcm_base.specs.declared.tag.Tag.{Tag}
use Rattle.dcm_base.specs.declared.fault.Fault.{Fault}
use Rattle.dcm_base.specs.declared.syntax.Coding.{Coding}
use Rattle.dcm_base.specs.declared.dictionary.Dictionary.TheVariants.{Standard}
use Rattle.dcm_base.specs.File.MetaGroup.{GroupPlace, GroupReads}
use Rattle.dcm_base.specs.File.MetaReads as meta
use Rattle.dcm_base.specs.File.MetaReads.{Meta, MetaReads, PREFIX}
use Rattle.dcm_base.specs.Reading.Reads.{Reads}
use Rattle.dcm_base.specs.Reading.Stop.{Stop, complete, refused, is_undecided}
use Rattle.dcm_base.specs.Tree.Front.{Front}
use Rattle.dcm_base.specs.Tree.Tree.{Trees, no_tree}
use Rattle.dcm_table.specs.declared.ending.RowEnd.{RowEnd}
use Rattle.dcm_table.specs.declared.ending.RowEnd.TheVariants.{Whole, Refused}
use Rattle.dcm_table.specs.Columns.{greatest_of}
use Rattle.dcm_table.specs.Ending.{end_by}
use Rattle.dcm_table.specs.Shown.{Held, front_unknown, held_with, meta_held, table_bar, trees_unknown}
use Rattle.dcm_cli.specs.Answer.{HeadIs, set_at}

-- ---- the meta group

-- whether the prefix comes after a preamble
abbrev pub has_prefix : List ℕ → Bool
has_prefix bytes = bytes_eq (take 4 (drop 128 bytes)) PREFIX

-- the elements of a meta group that are whole; without the prefix there are none
pub data ShowsMeta (bytes : List ℕ) (elements : Trees) : Type 0 where
  no_group : has_prefix bytes ≡ false → elements ≡ no_tree → ShowsMeta bytes elements
  of_group : (group : List ℕ) (place : GroupPlace) → has_prefix bytes ≡ true
      → GroupReads (drop 132 bytes) elements group place → ShowsMeta bytes elements

-- ---- the data set

-- after its head a file is read up to a head of the outermost level that is above all columns
pub record ShowsSet (columns : List Tag) (bytes : List ℕ) (m : Meta) (group : List ℕ) (coding : Coding) (set : Front)
    (stop : Stop) : Type 0 where
  pub head : HeadIs Standard bytes m group coding
  pub reads : Reads (table_bar (greatest_of columns)) coding.syntax (set_at group) (drop (set_at group) bytes) set stop

-- how the reading ends, for the row
abbrev pub end_of : Stop → RowEnd
end_of complete = Whole
end_of (refused fault offset) = end_by fault (record { fault = fault; at = offset })

-- ---- the row

-- the cells of the columns, and how the reading ends: no data set follows the meta group, and they are of the elements
-- that are whole before the fault; or they are of the meta group and the data set
pub data RowOf (columns : List Tag) (bytes : List ℕ) (cells : Held) (end : RowEnd) : Type 0 where
  of_meta : (fault : Fault) (offset : ℕ) (elements : Trees) → MetaReads bytes (meta.refused fault offset)
      → ShowsMeta bytes elements → cells ≡ meta_held columns elements
      → end ≡ Refused (record { fault = fault; at = offset }) → RowOf columns bytes cells end
  of_set : (m : Meta) (group : List ℕ) (coding : Coding) (set : Front) (stop : Stop)
      → ShowsSet columns bytes m group coding set stop
      → cells ≡ held_with coding.syntax set (meta_held columns m.elements) → end ≡ end_of stop
      → RowOf columns bytes cells end

-- more bytes after these can still change how the reading ends
pub data IsUndecided (columns : List Tag) (bytes : List ℕ) : Type 0 where
  in_meta : (a : meta.MetaAnswer) → MetaReads bytes a → meta.is_undecided (length bytes) a ≡ true
      → IsUndecided columns bytes
  in_set : (m : Meta) (group : List ℕ) (coding : Coding) (set : Front) (stop : Stop)
      → ShowsSet columns bytes m group coding set stop → is_undecided (Some stop) ≡ true → IsUndecided columns bytes

-- so they can where reading failed after them; whether a value of Specific Character Set that was read until then named
-- what is not known: none is read before the data set
pub data FailsAfter (columns : List Tag) (bytes : List ℕ) (unknown : Bool) : Type 0 where
  in_head : (a : meta.MetaAnswer) → MetaReads bytes a → meta.is_undecided (length bytes) a ≡ true → unknown ≡ false
      → FailsAfter columns bytes unknown
  behind_head : (m : Meta) (group : List ℕ) (coding : Coding) (set : Front) (stop : Stop)
      → ShowsSet columns bytes m group coding set stop → is_undecided (Some stop) ≡ true
      → unknown ≡ (front_unknown set || trees_unknown m.elements) → FailsAfter columns bytes unknown
