-- The marks of the numbers that the table of fates has, and numbers of elements that are always kept.
use Rattle.std.specs.Prelude.{ℕ, ◌/◌, ◌%◌, Bool, ◌==◌, List, slice_index}
use Rattle.std.specs.Int.{bit_at}
use Rattle.dcm_base.specs.Tables.Spread.{spread}
use Rattle.dcm_deid.specs.declared.fate.ReadAs.{ReadAs}
use Rattle.dcm_deid.specs.declared.fate.ReadAs.TheVariants.{AsBytes, AsItems}
use Rattle.dcm_deid.specs.declared.kept_numbers.TheConstants.{KEPT_VALUES, KEPT_SEQUENCES}
use Rattle.dcm_deid.specs.declared.table.TheConstants.{MARKS}

-- the words of the table
unfoldable pub marks : List ℕ
marks = MARKS

-- the place of a number's mark: there are 8,192, over which numbers are spread
abbrev pub mark_of : ℕ → ℕ
mark_of number = spread number 13

-- whether the mark of a number is set
abbrev pub is_marked : List ℕ → ℕ → Bool
is_marked words number = bit_at (slice_index words (mark_of number / 64)) (mark_of number % 64) == 1

-- numbers of elements that are always kept, of those that were read so
unfoldable pub always_kept : ReadAs → List ℕ
always_kept AsBytes = KEPT_VALUES
always_kept AsItems = KEPT_SEQUENCES
