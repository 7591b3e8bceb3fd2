-- The words of the laws.
use Rattle.std.specs.Prelude.{◌≡◌, ℕ, Bool, false, ◌&&◌, ◌||◌, ◌==◌, not, nat_lt, List, [], ◌∷◌, encode_utf8, if◌then◌else◌}
use Rattle.dcm_text.specs.declared.set.Right.TheVariants as right
use Rattle.dcm_text.specs.declared.sets.Sets.{Sets}
use Rattle.dcm_text.specs.declared.first.Meaning.TheVariants as meaning
use Rattle.dcm_text.specs.First.{is_escape}
use Rattle.dcm_text.specs.Decoding.{Piece}
use Rattle.dcm_text.specs.Shown.{percent}

-- ASCII that designates nothing
abbrev pub is_plain : Sets → ℕ → Bool
is_plain sets b = nat_lt b 0x80 && not (is_escape sets b)

-- a byte that is the character of its number
abbrev pub as_itself : ℕ → Piece
as_itself b = (b ∷ [], meaning.Character b)

-- UTF-8 is in force
pub record IsUtf8InForce (sets : Sets) : Type 0 where
  pub start : sets.start ≡ right.Utf8
  pub alone : sets.extended ≡ false

-- a character by its bytes of UTF-8
abbrev pub encoded : ℕ → Piece
encoded c = (encode_utf8 c, meaning.Character c)

-- what a dump shows of a byte of ASCII: controls, `%` and `]` are escaped
abbrev pub ascii_dumped : ℕ → List ℕ
ascii_dumped b = if nat_lt b 0x20 || (b == 0x7F) || (b == 37) || (b == 93) then percent b else b ∷ []

-- a number of a byte
abbrev pub is_byte : ℕ → Bool
is_byte b = nat_lt b 0x100
