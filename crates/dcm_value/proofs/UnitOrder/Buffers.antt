-- What a buffer of units makes of the bytes of a value.
use Rattle.std.proofs.Common.{◌≡◌, ◌<◌, ◌⊎◌, inl, inr, ℕ, ◌+◌, ◌*◌, ◌/◌, List, [], ◌++◌, length, ap, sym, ◌∙◌, arith, append_assoc, subst}
use Rattle.std.proofs.lemmas.List.{length-append}
use Rattle.std.proofs.Math.Nat.{div-eq_of_lt, mul-div_cancel}

-- a unit or none, whole units after it, and fewer bytes than a unit that are held
pub record Fed (k : ℕ) (held v first others tail : List ℕ) : Type 0 where
  pub all : held ++ v ≡ first ++ (others ++ tail)
  pub one : (first ≡ []) ⊎ (length first ≡ k)
  pub whole : length others / k * k ≡ length others
  pub left : length tail < k

pub fed_of : {n k : ℕ} {held v unit first others tail : List ℕ} → first ≡ unit → n ≡ k → held ++ v ≡ unit ++ (others ++ tail) → (unit ≡ []) ⊎ (length unit ≡ n) → length others / n * n ≡ length others → length tail < n → Fed k held v first others tail
fed_of {n} {k} {held} {v} {unit} {first} {others} {tail} same is all one whole left = record {
  all = all ∙ ap (λ x. x ++ (others ++ tail)) (sym same);
  one = subst (λ x. (x ≡ []) ⊎ (length x ≡ k)) (sym same) (subst (λ m. (unit ≡ []) ⊎ (length unit ≡ m)) is one);
  whole = subst (λ m. length others / m * m ≡ length others) is whole;
  left = subst (λ m. length tail < m) is left;
}

module _ {k : ℕ} {held v first others tail : List ℕ} (fed : Fed k held v first others tail) where
  pub fed_lengths : length held + length v ≡ length first + (length others + length tail)
  fed_lengths = sym (length-append held v) ∙ ap length fed.all ∙ length-append first (others ++ tail) ∙ ap (λ n. length first + n) (length-append others tail)

  pub fed_parts : held ++ v ≡ (first ++ others) ++ tail
  fed_parts = fed.all ∙ sym (append_assoc first others tail)

  some : 0 < k
  some = let l = fed.left in omega arith

  pub first_size : length first ≡ length first / k * k
  first_size = by_first fed.one
    where
      by_first : (first ≡ []) ⊎ (length first ≡ k) → length first ≡ length first / k * k
      by_first (inl e) = ap length e ∙ (let x : 0 ≡ 0 * k = omega arith in x) ∙ ap (λ n. n * k) (sym (div-eq_of_lt some)) ∙ ap (λ f. length f / k * k) (sym e)
      by_first (inr e) =
          let once : k ≡ 1 * k = omega arith in
          e ∙ once ∙ ap (λ n. n * k) (sym (mul-div_cancel 1 some) ∙ ap (λ n. n / k) (sym (e ∙ once)))

  pub both_size : length (first ++ others) ≡ (length first / k + length others / k) * k
  both_size =
      let a : ℕ = length first / k in
      let b : ℕ = length others / k in
      length-append first others ∙ ap (λ n. n + length others) first_size ∙ ap (λ n. a * k + n) (sym fed.whole) ∙ (let x : a * k + b * k ≡ (a + b) * k = omega arith in x)
