-- The mask of the edits that found no place, bit by bit.
use Rattle.std.proofs.Common.{◌≡◌, ◌∙◌, ap, sym, ℕ, zero, suc, ◌+◌, ◌*◌, ◌/◌, ◌%◌, ◌<◌, ◌≤◌, List, [], ◌∷◌, length, map, Bool, true, false, refl, arith, inl, inr, ◌⊎◌}
use Rattle.std.specs.Prelude.{◌==◌, not, if◌then◌else◌}
use Rattle.std.specs.Int.{bit_at}
use Rattle.std.proofs.lemmas.Bool.{cases_lt}
use Rattle.std.proofs.lemmas.Nat.Bits.{bit_at_lowest, bit_at-suc, bit_at-zero, bit_at-lt, same_from_bits}
use Rattle.dcm_base.specs.Tree.Front.{Front}
use Rattle.dcm_edits.specs.Edit.{Edit, found}
use Rattle.dcm_editor.specs.Masks.{is_set, bits}
use Rattle.dcm_cli.specs.EditPass.{not_found}
use Rattle.dcm_cli.specs.Run.{unplaced_mask}

-- of a data set that the edits have gone over
found_more : (is_found : Bool) (m n : ℕ) → m ≡ n → (if is_found then 0 else 1) + 2 * m ≡ (if is_found then 0 else 1) + 2 * n
found_more is_found m n e = ap (λ (x : ℕ). (if is_found then 0 else 1) + 2 * x) e

pub not_found_is : (edits : List Edit) (set : Front) → not_found (map (λ (e : Edit). found e set) edits) ≡ unplaced_mask edits set
unfolding not_found unplaced_mask
not_found_is [] set = refl
not_found_is (e ∷ edits) set = found_more (found e set) (not_found (map (λ (x : Edit). found x set) edits)) (unplaced_mask edits set) (not_found_is edits set)

-- ---- a mask by its bits

-- whether answer k is no
abbrev lacks : ℕ → List Bool → Bool
lacks k [] = false
lacks zero (b ∷ bs) = not b
lacks (suc k) (b ∷ bs) = lacks k bs

bit_none : (bit : ℕ) → bit < 2 → (bit == 1) ≡ false → bit ≡ 0
bit_none zero less h = refl
bit_none (suc zero) less h = absurd (cc)
bit_none (suc (suc n)) less h = absurd (omega (arith, less))

bit_one : (bit : ℕ) → bit < 2 → (bit == 1) ≡ true → bit ≡ 1
bit_one zero less h = absurd (cc)
bit_one (suc zero) less h = refl
bit_one (suc (suc n)) less h = absurd (omega (arith, less))

no_bits : (mask : ℕ) → ((k : ℕ) → is_set mask k ≡ false) → mask ≡ 0
no_bits mask none = same_from_bits mask 0 (λ k. bit_none (bit_at mask k) (bit_at-lt mask k) (none k) ∙ sym (bit_at-zero k))

-- the lowest bit, and the others
low_bit : (mask : ℕ) (is_found : Bool) → is_set mask 0 ≡ not is_found → mask % 2 ≡ (if is_found then 0 else 1)
low_bit mask true is = sym (bit_at_lowest mask) ∙ bit_none (bit_at mask 0) (bit_at-lt mask 0) is
low_bit mask false is = sym (bit_at_lowest mask) ∙ bit_one (bit_at mask 0) (bit_at-lt mask 0) is

high_bits : (mask k : ℕ) → is_set (mask / 2) k ≡ is_set mask (suc k)
high_bits mask k = ap (λ (bit : ℕ). bit == 1) (sym (bit_at-suc mask k))

put_together : (mask low high : ℕ) → mask % 2 ≡ low → mask / 2 ≡ high → mask ≡ low + 2 * high
put_together mask low high l h = omega (arith, l, h)

mask_of_bits : (found : List Bool) (mask : ℕ) → ((k : ℕ) → is_set mask k ≡ lacks k found) → mask ≡ not_found found
unfolding not_found
mask_of_bits [] mask is = no_bits mask is
mask_of_bits (b ∷ bs) mask is = put_together mask (if b then 0 else 1) (not_found bs) (low_bit mask b (is 0)) (mask_of_bits bs (mask / 2) (λ k. high_bits mask k ∙ is (suc k)))

-- ---- of the bits of the edits that have found their place

lacks_none : (placed n k : ℕ) (edits : List Edit) → length edits ≤ k → lacks k (bits placed n edits) ≡ false
lacks_none placed n k [] over = refl
lacks_none placed n zero (e ∷ edits) over = absurd (omega (arith, over))
lacks_none placed n (suc k) (e ∷ edits) over = lacks_none placed (suc n) k edits (omega (arith, over))

lacks_at : (placed n k : ℕ) (edits : List Edit) → k < length edits → not (is_set placed (n + k)) ≡ lacks k (bits placed n edits)
lacks_at placed n k [] less = absurd (omega (arith, less))
lacks_at placed n zero (e ∷ edits) less = let same : n + 0 ≡ n = omega arith in ap (λ (j : ℕ). not (is_set placed j)) same
lacks_at placed n (suc k) (e ∷ edits) less =
    let same : n + suc k ≡ suc n + k = omega arith in
    ap (λ (j : ℕ). not (is_set placed j)) same ∙ lacks_at placed (suc n) k edits (omega (arith, less))

-- a mask has the other bits of the edits, and none past them
pub not_found_by : (edits : List Edit) (placed mask : ℕ) → ((k : ℕ) → k < length edits → is_set mask k ≡ not (is_set placed k)) → ((k : ℕ) → length edits ≤ k → is_set mask k ≡ false) → mask ≡ not_found (bits placed 0 edits)
not_found_by edits placed mask within past = mask_of_bits (bits placed 0 edits) mask (λ k. by_number k (cases_lt k (length edits)))
  where
    by_number : (k : ℕ) → (k < length edits) ⊎ (length edits ≤ k) → is_set mask k ≡ lacks k (bits placed 0 edits)
    by_number k (inl less) = let same : k ≡ 0 + k = omega arith in within k less ∙ ap (λ (j : ℕ). not (is_set placed j)) same ∙ lacks_at placed 0 k edits less
    by_number k (inr over) = past k over ∙ sym (lacks_none placed 0 k edits over)
