-- HMAC-SHA-256 (RFC 2104, FIPS 180-4).
use Rattle.std.specs.Prelude.{ℕ, ◌-◌, List, ◌++◌, length, map, replicate, bit_xor, nat_le, cond}
use Rattle.sha2.specs.Sha256.{sha256}
use Rattle.sha2.specs.Hashers.{Holds256}
use Rattle.dcm_uid.specs.declared.hmac.Key.{Key}

-- the key of at most a block: a longer one is hashed
abbrev pub short_key : List ℕ → List ℕ
short_key key = cond (nat_le (length key) 64) key (sha256 key)

-- followed by zeros up to a block of 64 bytes
abbrev pub filled : List ℕ → List ℕ
filled key = key ++ replicate (64 - length key) 0

-- the first block of a pass: each byte of the filled key, and this byte by XOR
abbrev pub pad : ℕ → List ℕ → List ℕ
pad byte key = map (bit_xor byte) (filled (short_key key))

-- H(K XOR opad, H(K XOR ipad, text))
unfoldable pub hmac_sha256 : List ℕ → List ℕ → List ℕ
hmac_sha256 key message = sha256 (pad 0x5C key ++ sha256 (pad 0x36 key ++ message))

-- both passes have taken their first block
unfoldable pub IsKey : Key → List ℕ → Type 0
IsKey k key = Holds256 k.inner (pad 0x36 key) × Holds256 k.outer (pad 0x5C key)
