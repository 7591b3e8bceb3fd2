-- Values and the pads at their ends.
use Rattle.std.proofs.Common.{◌≡◌, ℕ, ◌+◌, ◌-◌, ◌≤◌, ◌<◌, List, [], ◌∷◌, ◌++◌, length, take, get_or, Bool, true, false, cond, refl, sym, ap, ◌∙◌, arith}
use Rattle.std.proofs.lemmas.List.{take_more, length-take-le}
use Rattle.dcm_base.specs.Tables.Transfer.{is_pad, before_pads, without_pads}

-- a pad at the end
pub pads_more : (bytes : List ℕ) (byte : ℕ) → is_pad byte ≡ true → without_pads (bytes ++ byte ∷ []) ≡ without_pads bytes
unfolding without_pads
pads_more [] byte h = ap (λ (b : Bool). cond b [] (byte ∷ [])) h
pads_more (b ∷ bs) byte h = ap (before_pads b) (pads_more bs byte h)

before_more : (b : ℕ) (bytes : List ℕ) (byte : ℕ) → before_pads b (bytes ++ byte ∷ []) ≡ b ∷ (bytes ++ byte ∷ [])
before_more b [] byte = refl
before_more b (x ∷ xs) byte = refl

-- no pad at the end
pub no_pad : (bytes : List ℕ) (byte : ℕ) → is_pad byte ≡ false → without_pads (bytes ++ byte ∷ []) ≡ bytes ++ byte ∷ []
unfolding without_pads
no_pad [] byte h = ap (λ (b : Bool). cond b [] (byte ∷ [])) h
no_pad (b ∷ bs) byte h = ap (before_pads b) (no_pad bs byte h) ∙ before_more b bs byte

pub pads_taken : (value : List ℕ) (n : ℕ) → 0 < n → n ≤ length value → is_pad (get_or value (n - 1) 0) ≡ true → without_pads (take n value) ≡ without_pads (take (n - 1) value)
pads_taken value n h le p =
    let one : n ≡ n - 1 + 1 = omega arith in
    let some : n - 1 < length value = omega arith in
    ap (λ (k : ℕ). without_pads (take k value)) one ∙ ap without_pads (take_more value (n - 1) 0 some) ∙ pads_more (take (n - 1) value) (get_or value (n - 1) 0) p

pub taken_no_pad : (value : List ℕ) (n : ℕ) → 0 < n → n ≤ length value → is_pad (get_or value (n - 1) 0) ≡ false → length (without_pads (take n value)) ≡ n
taken_no_pad value n h le p =
    let one : n ≡ n - 1 + 1 = omega arith in
    let some : n - 1 < length value = omega arith in
    let same = take_more value (n - 1) 0 some in
    ap (λ (k : ℕ). length (without_pads (take k value))) one ∙ ap (λ (x : List ℕ). length (without_pads x)) same ∙ ap length (no_pad (take (n - 1) value) (get_or value (n - 1) 0) p)
    ∙ sym (ap length same) ∙ sym (ap (λ (k : ℕ). length (take k value)) one) ∙ length-take-le n value le

pub nothing_left : without_pads [] ≡ []
unfolding without_pads
nothing_left = refl

front_more : (byte : ℕ) (left bytes : List ℕ) → take (length left) bytes ≡ left → take (length (before_pads byte left)) (byte ∷ bytes) ≡ before_pads byte left
front_more byte [] bytes h = elim (is_pad byte) as (λ (b : Bool). take (length (cond b [] (byte ∷ []))) (byte ∷ bytes) ≡ cond b [] (byte ∷ [])) [ true ↦ refl | false ↦ ap (λ (x : List ℕ). byte ∷ x) h ]
front_more byte (x ∷ left) bytes h = ap (λ (y : List ℕ). byte ∷ y) h

-- what is left of a value is its front
pub pads_front : (value : List ℕ) → take (length (without_pads value)) value ≡ without_pads value
unfolding without_pads
pads_front [] = refl
pads_front (byte ∷ bytes) = front_more byte (without_pads bytes) bytes (pads_front bytes)
