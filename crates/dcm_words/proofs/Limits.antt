-- Numbers that are no higher than one past the greatest limit.
use Rattle.std.proofs.Common.{◌≡◌, ℕ, suc, ◌+◌, ◌*◌, List, [], ◌∷◌, drop, length, ◌<◌, get_or, Option, Some, None, option_map, refl, ap, sym, ◌∙◌, arith, drop-cons, add-one}
use Rattle.std.proofs.lemmas.Bool.Decides.{nat_tests}
use Rattle.dcm_base.specs.Lines.ReadValue.{◌>>=◌, digit, number_in}
use Rattle.dcm_words.specs.Plans.{capped}

cap_step : (most n m d : ℕ) → capped most n ≡ capped most m → capped most (n * 10 + d) ≡ capped most (m * 10 + d)
cap_step most n m d e = grind (arith, nat_tests, e)

same_cap : (most : ℕ) (cs : List ℕ) (n m : ℕ) → capped most n ≡ capped most m → option_map (capped most) (number_in 10 n cs) ≡ option_map (capped most) (number_in 10 m cs)
same_cap most [] n m e = ap Some e
same_cap most (c ∷ cs) n m e = behind (digit 10 c) (λ d. same_cap most cs (n * 10 + d) (m * 10 + d) (cap_step most n m d e))
  where
    behind : (digit : Option ℕ) → ((d : ℕ) → option_map (capped most) (number_in 10 (n * 10 + d) cs) ≡ option_map (capped most) (number_in 10 (m * 10 + d) cs))
        → option_map (capped most) (digit >>= λ d. number_in 10 (n * 10 + d) cs) ≡ option_map (capped most) (digit >>= λ d. number_in 10 (m * 10 + d) cs)
    behind None same = refl
    behind (Some d) same = same d

-- one digit more, of a number that is no higher than its cap
pub limit_step : (most n d next i : ℕ) (ds : List ℕ) → i < length ds → digit 10 (get_or ds i 0) ≡ Some d → capped most (n * 10 + d) ≡ capped most next
    → option_map (capped most) (number_in 10 n (drop i ds)) ≡ option_map (capped most) (number_in 10 next (drop (i + 1) ds))
limit_step most n d next i ds h e c =
    ap (λ cs. option_map (capped most) (number_in 10 n cs)) (drop-cons ds i 0 h)
    ∙ ap (λ o. option_map (capped most) (o >>= λ d. number_in 10 (n * 10 + d) (drop (suc i) ds))) e
    ∙ same_cap most (drop (suc i) ds) (n * 10 + d) next c
    ∙ ap (λ k. option_map (capped most) (number_in 10 next (drop k ds))) (sym (add-one i))
