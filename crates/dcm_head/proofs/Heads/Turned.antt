-- A number whose bytes are turned round.
use Rattle.std.proofs.Common.{◌≡◌, ℕ, zero, suc, ◌<◌, ◌∷◌, [], refl, arith, get_or}
use Rattle.std.specs.Int.{w16, w32, to_le_bytes, to_be_bytes, from_be_bytes, byte_at}
use Rattle.std.proofs.lemmas.Nat.{le_bytes_2, le_bytes_4}

two_small : (a b : ℕ) → a < 256 → b < 256 → (i : ℕ) → get_or (a ∷ b ∷ []) i 0 < 256
two_small a b p q zero = p
two_small a b p q (suc zero) = q
two_small a b p q (suc (suc i)) = omega arith

four_small : (a b c d : ℕ) → a < 256 → b < 256 → c < 256 → d < 256 → (i : ℕ) → get_or (a ∷ b ∷ c ∷ d ∷ []) i 0 < 256
four_small a b c d p q r s zero = p
four_small a b c d p q r s (suc zero) = q
four_small a b c d p q r s (suc (suc i)) = two_small c d r s i

pub short_turned : (n : ℕ) → to_le_bytes w16 (from_be_bytes w16 (to_le_bytes w16 n)) ≡ to_be_bytes w16 n
short_turned n =
    le_bytes_2 (to_be_bytes w16 n) (from_be_bytes w16 (to_le_bytes w16 n)) refl
    (two_small (byte_at 1 n) (byte_at 0 n) (omega arith) (omega arith)) (omega arith)

pub long_turned : (n : ℕ) → to_le_bytes w32 (from_be_bytes w32 (to_le_bytes w32 n)) ≡ to_be_bytes w32 n
long_turned n =
    le_bytes_4 (to_be_bytes w32 n) (from_be_bytes w32 (to_le_bytes w32 n)) refl
    (four_small (byte_at 3 n) (byte_at 2 n) (byte_at 1 n) (byte_at 0 n) (omega arith) (omega arith) (omega arith) (omega arith)) (omega arith)
