-- Which names of a tree are done by which of several runs.
use Rattle.std.specs.Prelude.{ℕ, ◌+◌, ◌*◌, ◌%◌, ◌^◌, ◌==◌, Bool, List, fold, bit_xor}

-- one round of FNV-1a of 32 bits
abbrev pub hash_byte : ℕ → ℕ → ℕ
hash_byte hash b = (bit_xor hash b * 16777619) % 2 ^ 32

-- a round for each byte
abbrev pub hash : List ℕ → ℕ
hash bytes = fold hash_byte 2166136261 bytes

-- a relative name is done by run `number` of `count`
abbrev pub is_of : (number count : ℕ) → (relative : List ℕ) → Bool
is_of number count relative = hash relative % count + 1 == number
