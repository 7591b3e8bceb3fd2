-- What a text shows, in a dump and in a cell of a table.
use Rattle.std.specs.Prelude.{ℕ, ◌+◌, ◌-◌, ◌/◌, ◌%◌, Bool, ◌&&◌, ◌||◌, ◌==◌, not, nat_lt, nat_le, List, [], ◌∷◌, flat_map, if◌then◌else◌}
use Rattle.std.specs.Prelude.{encode_utf8}
use Rattle.std.specs.List.{list_any}
use Rattle.dcm_text.specs.declared.set.TextKind.{TextKind}
use Rattle.dcm_text.specs.declared.sets.Sets.{Sets}
use Rattle.dcm_text.specs.declared.first.Meaning.TheVariants as meaning
use Rattle.dcm_text.specs.declared.shown.TheConstants.{HIDDEN}
use Rattle.dcm_text.specs.Characters.{is_between}
use Rattle.dcm_text.specs.Decoding.{Piece, decoded}

-- controls, what turns or breaks lines, and what shows nothing
unfoldable pub hidden : List (ℕ × ℕ)
hidden = HIDDEN

-- these, and the last two numbers of each plane, which are no characters
abbrev pub is_hidden : ℕ → Bool
is_hidden c = nat_le 0xFFFE (c % 0x10000) || list_any (λ r. is_between r.0 r.1 c) hidden

-- what a dump shows as it is: not `%` and `]`, and nothing hidden
abbrev pub is_dumped : ℕ → Bool
is_dumped c = not (c == 37) && not (c == 93) && not (is_hidden c)

-- a hexadecimal digit, of which those from ten on begin with this one
abbrev pub digit : (number ten : ℕ) → ℕ
digit number ten = if nat_lt number 10 then 48 + number else ten + (number - 10)

-- a byte as %XX
abbrev pub percent : ℕ → List ℕ
percent b = 37 ∷ digit (b / 16) 65 ∷ digit (b % 16) 65 ∷ []

-- a byte as \xNN
abbrev pub backslashed : ℕ → List ℕ
backslashed b = 92 ∷ 120 ∷ digit (b / 16) 97 ∷ digit (b % 16) 97 ∷ []

-- what a dump shows of a piece
abbrev pub dumped_piece : Piece → List ℕ
dumped_piece (bytes, meaning.Character c) = if is_dumped c then encode_utf8 c else flat_map percent bytes
dumped_piece (bytes, meaning.Unknown) = flat_map percent bytes
dumped_piece (bytes, meaning.Designation) = []

-- what a cell shows of it
abbrev pub cell_piece : Piece → List ℕ
cell_piece (bytes, meaning.Character c) = encode_utf8 c
cell_piece (bytes, meaning.Unknown) = flat_map backslashed bytes
cell_piece (bytes, meaning.Designation) = []

-- what a dump shows of a text
unfoldable pub dumped : Sets → TextKind → List ℕ → List ℕ
dumped sets kind text = flat_map dumped_piece (decoded sets kind text)

-- what a cell shows of it
unfoldable pub cell : Sets → TextKind → List ℕ → List ℕ
cell sets kind text = flat_map cell_piece (decoded sets kind text)
