-- What is left out.
use Rattle.std.proofs.Common.{◌≡◌, ◌<◌, refl, ℕ, zero, suc, List, [], ◌∷◌, map, true, false, arith}
use Rattle.std.specs.Prelude.{fold}
use Rattle.dcm_base.specs.Steps.Atoms.{value_byte}
use Rattle.dcm_stream.specs.Skip.{after, is_open}

-- the bytes of a value change nothing of it
pub bytes_change_nothing : (n : ℕ) (bytes : List ℕ) → fold after n (map value_byte bytes) ≡ n
bytes_change_nothing n [] = refl
bytes_change_nothing n (b ∷ bytes) = bytes_change_nothing n bytes

-- what a test says of it
pub some_open : (n : ℕ) → true ≡ is_open n → 0 < n
some_open zero e = absurd (cc)
some_open (suc n) e = omega arith

pub none_open : (n : ℕ) → false ≡ is_open n → n ≡ 0
none_open zero e = refl
none_open (suc n) e = absurd (cc)
