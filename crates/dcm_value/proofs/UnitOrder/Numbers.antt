-- Numbers of the bytes of a unit.
use Rattle.std.proofs.Common.{◌≡◌, ◌≤◌, ◌<◌, ℕ, ◌+◌, ◌*◌, ◌^◌, List, [], ◌∷◌, length, take, get_or, sym, ap, ◌∙◌, arith, lit<}
use Rattle.std.specs.Prelude.{reverse}
use Rattle.std.proofs.lemmas.List.{reverse-append, take_more}
use Rattle.std.proofs.lemmas.Grind.{pow_more}
use Rattle.std.proofs.Math.Nat.{pow-le-pow_right}
use Rattle.dcm_base.specs.Tree.Value.{number_of}

-- one byte more stays a number of eight bytes
pub fits_eight : (n i : ℕ) → n < 256 ^ i → i < 8 → n * 256 + 255 < 2 ^ 64
fits_eight n i small few =
    let most : 256 ^ i ≤ 256 ^ 7 = pow-le-pow_right {n = 256} (lit< tt) {i = i} {j = 7} (omega arith) in
    let least : n < 72057594037927936 = omega (arith, most) in
    omega arith

pub grows : (n b i : ℕ) → n < 256 ^ i → b < 256 → n * 256 + b < 256 ^ (i + 1)
grows n b i small byte = let e : 256 ^ (i + 1) ≡ 256 ^ i * 256 = pow_more 256 i in omega (arith, e)

-- one byte more behind, where the highest stands first
pub number_more : (bytes : List ℕ) (i n : ℕ) → i < length bytes → n ≡ number_of (reverse (take i bytes)) → n * 256 + get_or bytes i 0 ≡ number_of (reverse (take (i + 1) bytes))
number_more bytes i n h e =
    let b : ℕ = get_or bytes i 0 in
    let more : reverse (take (i + 1) bytes) ≡ b ∷ reverse (take i bytes) = ap reverse (take_more bytes i 0 h) ∙ reverse-append (take i bytes) (b ∷ []) in
    let value : number_of (b ∷ reverse (take i bytes)) ≡ b + 256 * n = ap (λ m. b + 256 * m) (sym e) in
    let sum : n * 256 + b ≡ b + 256 * n = omega arith in
    sum ∙ sym value ∙ sym (ap number_of more)
