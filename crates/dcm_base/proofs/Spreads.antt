-- Numbers spread over places.
use Rattle.std.proofs.Common.{◌≡◌, ◌<◌, ◌≤◌, ℕ, ◌+◌, ◌-◌, ◌*◌, ◌%◌, ◌^◌, arith, ap, sym, ◌∙◌, subst}
use Rattle.std.proofs.Math.Nat.{div-lt_iff_lt-mul}
use Rattle.std.proofs.lemmas.Nat.{pow-add, pow_pos}
use Rattle.dcm_base.specs.Tables.Spread.{spread}

-- each place is one of them
pub spread_within : (n bits : ℕ) → bits ≤ 32 → spread n bits < 2 ^ bits
spread_within n bits few =
    let sum : bits + (32 - bits) ≡ 32 = omega (arith, few) in
    let all : 2 ^ bits * 2 ^ (32 - bits) ≡ 4294967296 = sym (pow-add 2 bits (32 - bits)) ∙ ap (λ (k : ℕ). 2 ^ k) sum in
    let less : n * 2654435769 % 4294967296 < 4294967296 = omega arith in
    (div-lt_iff_lt-mul (pow_pos (32 - bits))).1 (subst (λ (m : ℕ). n * 2654435769 % 4294967296 < m) (sym all) less)
