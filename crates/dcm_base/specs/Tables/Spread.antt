-- Numbers spread over places.
use Rattle.std.specs.Prelude.{ℕ, ◌-◌, ◌*◌, ◌/◌, ◌%◌, ◌^◌}

-- the place of a number among 2^bits: so many of the highest of the 32 lowest bits of the number times 2^32 divided by the
-- golden ratio
abbrev pub spread : ℕ → (bits : ℕ) → ℕ
spread number bits = number * 2654435769 % 4294967296 / 2 ^ (32 - bits)
