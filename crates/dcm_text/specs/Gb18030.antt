-- The characters of GB18030 (PS3.3 C.12.1.1.2), by their bytes.
use Rattle.std.specs.Prelude.{ℕ, ◌+◌, ◌-◌, ◌*◌, ◌%◌, ◌&&◌, nat_lt, nat_le, List, [], ◌∷◌, Option, Some, None, option_and_then, if◌then◌else◌}
use Rattle.dcm_text.specs.declared.gb_tables.TheConstants.{GB_PAIRS_81, GB_PAIRS_AB, GB_PAIRS_D5, GB_RANGES}
use Rattle.dcm_text.specs.Characters.{is_between, entry, numbered}

-- ---- two bytes

-- the table of the pairs that begin with a byte: 42 rows each
unfoldable pub pairs : (first : ℕ) → List ℕ
pairs first = if nat_lt first 0xAB then GB_PAIRS_81 else if nat_lt first 0xD5 then GB_PAIRS_AB else GB_PAIRS_D5

abbrev pub column : (second : ℕ) → Option ℕ
column second =
    if is_between 0x40 0x7E second then Some (second - 0x40) else if is_between 0x80 0xFE second then Some (second - 0x41)
    else None

abbrev pub pair_character : (first second : ℕ) → Option ℕ
pair_character first second =
    option_and_then (λ c. entry (pairs first) (190 * ((first - 0x81) % 42) + c)) (column second)

-- ---- four bytes

-- where numbers and characters begin to ascend together
unfoldable pub ranges : List (ℕ × ℕ)
ranges = GB_RANGES

-- the last range that begins at or before a number has its character; `found` is what those before have
abbrev pub ranged : (found : Option ℕ) → List (ℕ × ℕ) → ℕ → Option ℕ
ranged found [] n = found
ranged found (r ∷ rs) n = if nat_lt n r.0 then found else ranged (Some (r.1 + (n - r.0))) rs n

-- four bytes are counted in the order of the first, then the second, and so on: 126 by 10 by 126 by 10
abbrev pub number : (first second third fourth : ℕ) → ℕ
number first second third fourth =
    ((first - 0x81) * 10 + (second - 0x30)) * 1260 + ((third - 0x81) * 10 + (fourth - 0x30))

-- below 39,420 they are what from 80 to FFFF no pair has; from 90308130 on they are 10000 to 10FFFF
abbrev pub numbered_four : ℕ → Option ℕ
numbered_four n =
    if nat_lt n 39420 then ranged None ranges n
    else if nat_le 0x2E248 n && nat_lt n 0x12E248 then Some (0x10000 + (n - 0x2E248)) else None

abbrev pub four_character : (first second third fourth : ℕ) → Option ℕ
four_character first second third fourth = option_and_then numbered (numbered_four (number first second third fourth))
