-- The characters of the sets (PS3.3 C.12.1.1.2), by their bytes.
use Rattle.std.specs.Prelude.{ℕ, ◌+◌, ◌-◌, ◌*◌, Bool, ◌&&◌, ◌==◌, nat_lt, nat_le, List, Option, Some, None, option_and_then, if◌then◌else◌}
use Rattle.std.specs.List.{slice_index}
use lib.Utf8.{scalar}
use Rattle.dcm_text.specs.declared.characters.Single.{Single}
use Rattle.dcm_text.specs.declared.characters.Single.TheVariants.{Ir13, Ir100, Ir101, Ir109, Ir110, Ir126, Ir127, Ir138, Ir144, Ir148, Ir166, Ir203}
use Rattle.dcm_text.specs.declared.tables.TheConstants.{RIGHT_13, RIGHT_100, RIGHT_101, RIGHT_109, RIGHT_110, RIGHT_126}
use Rattle.dcm_text.specs.declared.tables.TheConstants.{RIGHT_127, RIGHT_138, RIGHT_144, RIGHT_148, RIGHT_166, RIGHT_203, ROWS_87, ROWS_149, ROWS_58, ROWS_159}

-- the numbers of a right half, from byte A0 on
unfoldable pub right_half : Single → List ℕ
right_half Ir13 = RIGHT_13
right_half Ir100 = RIGHT_100
right_half Ir101 = RIGHT_101
right_half Ir109 = RIGHT_109
right_half Ir110 = RIGHT_110
right_half Ir126 = RIGHT_126
right_half Ir127 = RIGHT_127
right_half Ir138 = RIGHT_138
right_half Ir144 = RIGHT_144
right_half Ir148 = RIGHT_148
right_half Ir166 = RIGHT_166
right_half Ir203 = RIGHT_203

-- the character of a number, where Unicode has one
abbrev pub numbered : ℕ → Option ℕ
numbered n = if scalar n then Some n else None

-- the character that an entry of a table is: 0 is none
abbrev pub entry : List ℕ → ℕ → Option ℕ
entry table at = if slice_index table at == 0 then None else numbered (slice_index table at)

-- the character of a byte from 80 on, in a set of one byte a character
abbrev pub single_character : Single → ℕ → Option ℕ
single_character single byte = if nat_lt byte 0xA0 then None else entry (right_half single) (byte - 0xA0)

-- ---- two bytes

abbrev pub is_between : (least most n : ℕ) → Bool
is_between least most n = nat_le least n && nat_le n most

-- where a row stands in the table of its set; all other rows are empty
abbrev pub place_87 : (row : ℕ) → Option ℕ
place_87 row = if is_between 1 8 row then Some (row - 1) else if is_between 16 84 row then Some (row - 8) else None

abbrev pub place_149 : (row : ℕ) → Option ℕ
place_149 row =
    if is_between 1 12 row then Some (row - 1) else if is_between 16 40 row then Some (row - 4)
    else if is_between 42 93 row then Some (row - 5) else None

abbrev pub place_58 : (row : ℕ) → Option ℕ
place_58 row = if is_between 1 9 row then Some (row - 1) else if is_between 16 87 row then Some (row - 7) else None

abbrev pub place_159 : (row : ℕ) → Option ℕ
place_159 row =
    if row == 2 then Some 0 else if is_between 6 7 row then Some (row - 5) else if is_between 9 11 row then Some (row - 6)
    else if is_between 16 77 row then Some (row - 10) else None

unfoldable pub rows_87 : List ℕ
rows_87 = ROWS_87

unfoldable pub rows_149 : List ℕ
rows_149 = ROWS_149

unfoldable pub rows_58 : List ℕ
rows_58 = ROWS_58

unfoldable pub rows_159 : List ℕ
rows_159 = ROWS_159

-- the character in a column, counted from 1, of a row that stands at a place in a table of 94 columns
abbrev pub in_row : List ℕ → Option ℕ → (column : ℕ) → Option ℕ
in_row table place column = option_and_then (λ p. entry table (94 * p + (column - 1))) place

abbrev pub character_87 : (first second : ℕ) → Option ℕ
character_87 first second = in_row rows_87 (place_87 (first - 0x20)) (second - 0x20)

abbrev pub character_149 : (first second : ℕ) → Option ℕ
character_149 first second = in_row rows_149 (place_149 (first - 0xA0)) (second - 0xA0)

abbrev pub character_58 : (first second : ℕ) → Option ℕ
character_58 first second = in_row rows_58 (place_58 (first - 0xA0)) (second - 0xA0)

abbrev pub character_159 : (first second : ℕ) → Option ℕ
character_159 first second = in_row rows_159 (place_159 (first - 0x20)) (second - 0x20)

-- ---- UTF-8 (Unicode, table 3-6)

abbrev pub low_bits : ℕ → ℕ
low_bits byte = byte - 0x80

-- the number that two to four bytes are, by the first of them
abbrev pub number_utf8 : (first second third fourth : ℕ) → ℕ
number_utf8 first second third fourth =
    if nat_lt first 0xE0 then (first - 0xC0) * 64 + low_bits second
    else if nat_lt first 0xF0 then ((first - 0xE0) * 64 + low_bits second) * 64 + low_bits third
    else (((first - 0xF0) * 64 + low_bits second) * 64 + low_bits third) * 64 + low_bits fourth

unfoldable pub character_utf8 : (first second third fourth : ℕ) → Option ℕ
character_utf8 first second third fourth = numbered (number_utf8 first second third fourth)
