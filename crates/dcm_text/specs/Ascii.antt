-- Bytes of a text that a dump shows as they are, whatever Specific Character Set is in force.
use Rattle.std.specs.Prelude.{ℕ, Bool, not, nat_lt, ◌||◌, ◌==◌, if◌then◌else◌, List}
use Rattle.std.specs.Int.{w64, trailing_zeros}
use Rattle.std.specs.List.{position_or_len}

-- ASCII, but no control, percent sign or closing bracket
abbrev pub is_ascii_byte : ℕ → Bool
is_ascii_byte b = not (nat_lt b 32 || nat_lt 126 b || b == 37 || b == 93)

-- how many bytes in front are so
abbrev pub ascii_size : List ℕ → ℕ
ascii_size v = position_or_len (λ b. not (is_ascii_byte b)) v

-- the place of the lowest bit that is set, of eight, or eight
abbrev pub lowest_of_eight : ℕ → ℕ
lowest_of_eight bits = if bits == 0 then 8 else trailing_zeros w64 bits
