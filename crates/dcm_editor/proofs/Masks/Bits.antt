-- Masks, bit by bit.
use Rattle.std.proofs.Common.{◌≡◌, ◌≢◌, ℕ, suc, ◌+◌, ◌-◌, ◌*◌, ◌%◌, ◌^◌, ◌<◌, ◌≤◌, List, ◌∷◌, map, Bool, true, false, bit_or, subst, ◌∙◌, ap, arith}
use Rattle.std.specs.Prelude.{◌==◌}
use Rattle.std.specs.Int.{w64}
use Rattle.std.proofs.Math.Pow.{pow-lt}
use Rattle.std.proofs.Math.Nat.{mod-eq_of_lt}
use Rattle.std.proofs.lemmas.Nat.Bits.{bit_at_set_same, bit_at_set_other, bit_at_ones}
use Rattle.dcm_edits.specs.Edit.{Edit}
use Rattle.dcm_editor.specs.Masks.{is_set, bits, asked}
use Rattle.dcm_editor.specs.Asking.{asked_one}

pub set_same : (n k : ℕ) → k < 64 → is_set (bit_or n (1 * 2 ^ k % 18446744073709551616)) k ≡ true
set_same n k l = ap (λ (b : ℕ). b == 1) (bit_at_set_same w64 n k l)

pub set_other : (n k i : ℕ) → k < 64 → i ≢ k → is_set (bit_or n (1 * 2 ^ k % 18446744073709551616)) i ≡ is_set n i
set_other n k i l other = ap (λ (b : ℕ). b == 1) (bit_at_set_other w64 n k l i other)

pub full_mask : (k count : ℕ) → count ≤ 64 → k < count → is_set 18446744073709551615 k ≡ true
full_mask k count few l = ap (λ (b : ℕ). b == 1) (bit_at_ones 64 k (omega (arith, few, l)))

one_bit : (n : ℕ) → n < 64 → 1 * 2 ^ n % 18446744073709551616 ≡ 2 ^ n
one_bit n l = let small : 1 * 2 ^ n < 18446744073709551616 = let p : 2 ^ n < 2 ^ 64 = pow-lt l in omega (arith, p) in mod-eq_of_lt small ∙ (let e : 1 * 2 ^ n ≡ 2 ^ n = omega arith in e)

pub ones_below : (n k : ℕ) → n ≤ 64 → n ≢ 64 → k < n → is_set (1 * 2 ^ n % 18446744073709551616 - 1) k ≡ true
ones_below n k few other l = ap (λ (m : ℕ). is_set (m - 1) k) (one_bit n (omega (arith, few, other))) ∙ ap (λ (b : ℕ). b == 1) (bit_at_ones n k l)

-- ---- answers, one after another

module _ (answer : Edit → Bool) (depth mask : ℕ) (all : List Edit) where
  -- the bits of a mask from number k on are the answers of these edits
  abbrev pub Right : ℕ → ℕ → List Edit → Type 0
  Right final k es = bits final k es ≡ map answer (asked depth mask k es)

  -- where the later bits are right, all are
  abbrev pub SoFar : ℕ → ℕ → List Edit → Type 0
  SoFar now k es = (final : ℕ) → ((j : ℕ) → j < k → is_set final j ≡ is_set now j) → Right final k es → Right final 0 all

  one_more : (final k : ℕ) (e : Edit) (es : List Edit) (b : Bool) → is_set final k ≡ b → b ≡ answer (asked_one depth mask k e) → Right final (suc k) es → Right final k (e ∷ es)
  one_more final k e es b p q r = cc

  next_right : (final k m : ℕ) (es : List Edit) → m ≡ suc k → Right final m es → Right final (suc k) es
  next_right final k m es e r = subst (λ (j : ℕ). Right final j es) e r

  goes_by : (old new k m : ℕ) (e : Edit) (es : List Edit) → m ≡ suc k → SoFar old k (e ∷ es) → is_set new k ≡ answer (asked_one depth mask k e) → ((j : ℕ) → j ≢ k → is_set new j ≡ is_set old j) → SoFar new m es
  goes_by old new k m e es is so_far here others = λ final agrees right.
      so_far final
      (λ j l. agrees j (omega (arith, l, is)) ∙ others j (λ same. omega (arith, l, same)))
      (one_more final k e es (is_set new k) (agrees k (omega (arith, is))) here (next_right final k m es is right))

  pub goes_on : (old new k : ℕ) (e : Edit) (es : List Edit) → SoFar old k (e ∷ es) → is_set new k ≡ answer (asked_one depth mask k e) → ((j : ℕ) → j ≢ k → is_set new j ≡ is_set old j) → SoFar new (k + 1) es
  goes_on old new k e es so_far here others = goes_by old new k (k + 1) e es (omega arith) so_far here others

  pub high_on : (old new k : ℕ) → ((j : ℕ) → k ≤ j → is_set old j ≡ false) → ((j : ℕ) → j ≢ k → is_set new j ≡ is_set old j) → (j : ℕ) → k + 1 ≤ j → is_set new j ≡ false
  high_on old new k high others j l = others j (λ same. omega (arith, l, same)) ∙ high j (omega (arith, l))
