-- The names in a list of files, and how a name is shown.
use Rattle.std.specs.Prelude.{◌≡◌, ℕ, ◌<◌, nat_le, nat_lt, ◌==◌, Bool, true, false, not, ◌&&◌, ◌||◌}
use Rattle.std.specs.Prelude.{List, [], ◌∷◌, ◌++◌, length, take, flat_map, filter, Option, Some, None, if◌then◌else◌}
use Rattle.std.specs.Prelude.{slice_index}
use Rattle.std.specs.List.{list_any}
use Rattle.dcm_base.specs.Dump.ValueText.{hex_byte}

-- ---- a list

-- the byte that ends a line
abbrev pub NEWLINE : ℕ
NEWLINE = 10

abbrev pub is_newline : ℕ → Bool
is_newline b = b == NEWLINE

-- the line that is open after bytes, where this much of one came before them
abbrev pub open_line : List ℕ → List ℕ → List ℕ
open_line line [] = line
open_line line (b ∷ bs) = elim (is_newline b) [ true ↦ open_line [] bs | false ↦ open_line (line ++ b ∷ []) bs ]

-- the lines that ended in bytes, where this much of one came before them
abbrev pub ended_lines : List ℕ → List ℕ → List (List ℕ)
ended_lines line [] = []
ended_lines line (b ∷ bs) =
    elim (is_newline b) [ true ↦ line ∷ ended_lines [] bs | false ↦ ended_lines (line ++ b ∷ []) bs ]

abbrev pub has_bytes : List ℕ → Bool
has_bytes [] = false
has_bytes (b ∷ bs) = true

-- the names in a list: its lines, but for empty ones; the last one may lack its newline, where all of the list was read
abbrev pub names_of : (list : List ℕ) (is_whole : Bool) → List (List ℕ)
names_of list true = filter has_bytes (ended_lines [] list ++ open_line [] list ∷ [])
names_of list false = filter has_bytes (ended_lines [] list)

-- ---- a name

-- the most bytes of a name that can be opened, or is shown
abbrev pub NAME_LIMIT : ℕ
NAME_LIMIT = 4096

-- no name of a file is longer, or has a byte 00
abbrev pub can_be_opened : List ℕ → Bool
can_be_opened name = nat_le (length name) NAME_LIMIT && not (list_any (λ b. b == 0) name)

-- controls and the backslash are shown by their numbers, as \0a
abbrev pub is_shown_by_number : ℕ → Bool
is_shown_by_number b = nat_lt b 32 || b == 92 || b == 127

abbrev pub shown_byte : ℕ → List ℕ
shown_byte b = if is_shown_by_number b then 92 ∷ hex_byte b else b ∷ []

-- at most so many bytes of a name are shown
unfoldable pub shown_name : List ℕ → List ℕ
shown_name name = flat_map shown_byte (take NAME_LIMIT name)

-- ---- a newline's place

-- the first newline of bytes is there, or they have none
abbrev pub IsNewline : List ℕ → Option ℕ → Type 0
IsNewline bytes None = (k : ℕ) → k < length bytes → is_newline (slice_index bytes k) ≡ false
IsNewline bytes (Some at) = (at < length bytes) × (is_newline (slice_index bytes at) ≡ true)
    × ((k : ℕ) → k < at → is_newline (slice_index bytes k) ≡ false)
