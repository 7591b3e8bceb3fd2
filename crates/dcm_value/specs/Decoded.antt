-- A text by Specific Character Set: the values in it, and the end of its display.
use Rattle.std.specs.Prelude.{ℕ, Bool, false, ◌==◌, ◌&&◌, not, nat_le, List, ◌++◌, take, codes, count_by, slice_index, if◌then◌else◌}
use Rattle.dcm_text.specs.declared.first.Meaning.{Meaning}
use Rattle.dcm_text.specs.declared.first.Meaning.TheVariants as meaning
use Rattle.dcm_text.specs.Decoding.{Piece}
use Rattle.dcm_value.specs.Display.{Display, is_cut, ending}

-- values stand between characters that are a backslash; half of a character of two bytes is none
abbrev pub is_backslash : Meaning → Bool
is_backslash (meaning.Character c) = c == 92
is_backslash meaning.Unknown = false
is_backslash meaning.Designation = false

abbrev pub backslashes : List Piece → ℕ
backslashes pieces = count_by (λ p. is_backslash p.1) pieces

-- a byte that goes on a character of UTF-8
abbrev pub goes_on : ℕ → Bool
goes_on b = nat_le 0x80 b && nat_le b 0xBF

-- how many bytes are left of a display of more than 66: 63, or those before the character that byte 64 goes on
abbrev pub cut_size : List ℕ → ℕ
cut_size d =
    if not (goes_on (slice_index d 63)) then 63
    else if not (goes_on (slice_index d 62)) then 62
    else if not (goes_on (slice_index d 61)) then 61 else 60

-- what is written in the end of a text by characters
abbrev pub decoded_ending : Display → List ℕ
decoded_ending d = if is_cut d then take (cut_size d.front) d.front ++ codes "..." else ending d
