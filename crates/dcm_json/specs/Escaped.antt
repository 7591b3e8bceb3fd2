-- Bytes that stand in a string of JSON as they are (RFC 8259, section 7).
use Rattle.std.specs.Prelude.{ℕ, Bool, not, nat_lt, ◌||◌, ◌==◌, if◌then◌else◌, List}
use Rattle.std.specs.Int.{w64, trailing_zeros}
use Rattle.std.specs.List.{position_or_len}

-- all but controls, the quote and the backslash
abbrev pub is_plain_byte : ℕ → Bool
is_plain_byte b = not (nat_lt b 32 || b == 34 || b == 92)

-- how many bytes in front are so
abbrev pub plain_size : List ℕ → ℕ
plain_size v = position_or_len (λ b. not (is_plain_byte b)) v

-- the place of the lowest bit that is set, of sixteen, or sixteen
abbrev pub lowest_of_sixteen : ℕ → ℕ
lowest_of_sixteen bits = if bits == 0 then 16 else trailing_zeros w64 bits
