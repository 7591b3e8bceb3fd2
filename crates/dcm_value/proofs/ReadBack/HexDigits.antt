-- Numbers that hexadecimal digits spell.
use Rattle.std.proofs.Common.{◌≡◌, ◌≤◌, ◌<◌, ℕ, zero, suc, ◌+◌, ◌*◌, ◌^◌, List, length, drop, get_or, drop-cons, add-one, Some, ap, sym, ◌∙◌, arith, lit<, refl}
use Rattle.std.proofs.lemmas.Grind.{pow_more}
use Rattle.std.proofs.Math.Nat.{pow-le-pow_right}
use Rattle.dcm_base.specs.Lines.ReadValue.{◌>>=◌, digit, number_in}

-- one digit more
pub digit_fits : (n d i : ℕ) → n < 16 ^ i → d < 16 → n * 16 + d < 16 ^ (i + 1)
digit_fits n d i small below =
    let more : 16 ^ (i + 1) ≡ 16 ^ i * 16 = pow_more 16 i in
    omega (arith, more)

pub within_word : (n i : ℕ) → n < 16 ^ i → i ≤ 15 → n < 16 ^ 15
within_word n i small short =
    let most : 16 ^ i ≤ 16 ^ 15 = pow-le-pow_right {n = 16} (lit< tt) {i = i} {j = 15} short in
    omega (arith, most)

pub number_step : (n d i : ℕ) (cs : List ℕ) → i < length cs → digit 16 (get_or cs i 0) ≡ Some d → number_in 16 n (drop i cs) ≡ number_in 16 (n * 16 + d) (drop (i + 1) cs)
number_step n d i cs h e =
    ap (number_in 16 n) (drop-cons cs i 0 h)
    ∙ ap (λ o. o >>= λ d. number_in 16 (n * 16 + d) (drop (suc i) cs)) e
    ∙ ap (λ k. number_in 16 (n * 16 + d) (drop k cs)) (sym (add-one i))

-- two digits a byte
pub two_a_byte : (n : ℕ) → 16 ^ (n + n) ≡ 256 ^ n
two_a_byte zero = refl
two_a_byte (suc n) =
    let one : 16 ^ (n + n + 1) ≡ 16 ^ (n + n) * 16 = pow_more 16 (n + n) in
    let two : 16 ^ (n + n + 1 + 1) ≡ 16 ^ (n + n + 1) * 16 = pow_more 16 (n + n + 1) in
    let more : 256 ^ (n + 1) ≡ 256 ^ n * 256 = pow_more 256 n in
    let sum : suc n + suc n ≡ n + n + 1 + 1 = omega arith in
    ap (λ k. 16 ^ k) sum ∙ (let e : 16 ^ (n + n + 1 + 1) ≡ 256 ^ (n + 1) = omega (arith, one, two, more, two_a_byte n) in e) ∙ ap (λ k. 256 ^ k) (add-one n)
