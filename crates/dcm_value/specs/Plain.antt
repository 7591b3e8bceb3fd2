-- Bytes of a text that are shown as they are.
use Rattle.std.specs.Prelude.{ℕ, Bool, not, nat_lt, ◌||◌, ◌==◌, if◌then◌else◌, List}
use Rattle.std.specs.Int.{w64, trailing_zeros}
use Rattle.std.specs.List.{position_or_len}
use Rattle.dcm_text.specs.Ascii as ascii

-- controls, the percent sign and the closing bracket are not
abbrev pub is_plain_byte : ℕ → Bool
is_plain_byte b = not (nat_lt b 32 || b == 127 || b == 37 || b == 93)

-- how many bytes in front are
abbrev pub plain_size : List ℕ → ℕ
plain_size v = position_or_len (λ b. not (is_plain_byte b)) v

-- the place of the lowest bit that is set, of sixteen, or sixteen
abbrev pub lowest_of_sixteen : ℕ → ℕ
lowest_of_sixteen bits = if bits == 0 then 16 else trailing_zeros w64 bits

-- nor, by Specific Character Set, any byte above 7E
abbrev pub is_ascii_byte : ℕ → Bool
is_ascii_byte b = ascii.is_ascii_byte b

-- how many bytes in front are so
abbrev pub ascii_size : List ℕ → ℕ
ascii_size v = ascii.ascii_size v
