-- Numbers that decimal digits spell.
use Rattle.std.proofs.Common.{◌≡◌, ◌≤◌, ◌<◌, ℕ, suc, ◌+◌, ◌*◌, ◌^◌, List, length, drop, get_or, drop-cons, add-one, Some, ap, sym, ◌∙◌, arith, lit<}
use Rattle.std.proofs.lemmas.Grind.{pow_more}
use Rattle.std.proofs.Math.Nat.{pow-le-pow_right}
use Rattle.dcm_base.specs.Lines.ReadValue.{◌>>=◌, digit, number_in}

-- one digit more
pub digit_fits : (n d i : ℕ) → n < 10 ^ i → d < 10 → n * 10 + d < 10 ^ (i + 1)
digit_fits n d i small below =
    let more : 10 ^ (i + 1) ≡ 10 ^ i * 10 = pow_more 10 i in
    omega (arith, more)

pub within_word : (n i : ℕ) → n < 10 ^ i → i ≤ 20 → n < 10 ^ 20
within_word n i small short =
    let most : 10 ^ i ≤ 10 ^ 20 = pow-le-pow_right {n = 10} (lit< tt) {i = i} {j = 20} short in
    omega (arith, most)

pub number_step : (n d i : ℕ) (cs : List ℕ) → i < length cs → digit 10 (get_or cs i 0) ≡ Some d → number_in 10 n (drop i cs) ≡ number_in 10 (n * 10 + d) (drop (i + 1) cs)
number_step n d i cs h e =
    ap (number_in 10 n) (drop-cons cs i 0 h)
    ∙ ap (λ o. o >>= λ d. number_in 10 (n * 10 + d) (drop (suc i) cs)) e
    ∙ ap (λ k. number_in 10 (n * 10 + d) (drop k cs)) (sym (add-one i))
