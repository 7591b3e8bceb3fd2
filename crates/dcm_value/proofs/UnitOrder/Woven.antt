-- The digits of sixteen bytes at a time.
use Rattle.std.proofs.Common.{◌≡◌, ◌<◌, ◌≤◌, ℕ, zero, suc, ◌+◌, ◌-◌, ◌*◌, ◌/◌, ◌%◌, ◌^◌, ◌==◌, ◌&&◌, Bool, true, false, List, [], ◌∷◌, ◌++◌, length, take, drop, take-add, min, get_or, map, replicate, bit_and, refl, sym, ap, ◌∙◌, arith, inl, inr, w8, Fits, eqb-true}
use Rattle.std.proofs.lemmas.Bool.{and_parts, cases_lt}
use Rattle.std.specs.Prelude.{flat_map}
use Rattle.std.proofs.Math.Seq.{take-append-add}
use Rattle.std.proofs.lemmas.List.{length-take-le, take-append-drop, take-append-le, length-map, get_or-map, ext_get_or}
use Rattle.std.proofs.lemmas.Nat.{and_le_r, and_mask}
use Rattle.std.proofs.lemmas.Simd.{Each1-all, Each1-get_or, Each1-weaker, Each1-zip2, Each2-splat, below_from_Fits, length-zip2, zip2_splat, swz_l, SwzOk, SwzOk-from_below, length-swz_l, get_or-swz_l_below, put_chunk_is}
use lib.Lanes.{zip2, Each1, pick_l, put_chunk, chunk}
use Rattle.dcm_base.specs.Dump.ValueText.{lower, hex_byte}
use Rattle.dcm_value.specs.declared.hexadecimal.TheConstants.{DIGITS, IN_TURN, BYTES, BIG_PAIRS, LITTLE_PAIRS, BIG_FOURS, LITTLE_FOURS, BIG_EIGHTS, LITTLE_EIGHTS}
use Rattle.dcm_value.specs.Swap.{IsUnit}
use Rattle.dcm_value.specs.Units.{separated}
use Rattle.dcm_value.specs.Woven.{woven, unit_digits}
use Rattle.dcm_base.specs.Tree.Value.{units}
use Rattle.std.proofs.lemmas.Grind.{flat_map-append}
use Rattle.std.proofs.Math.Nat.{mul-suc}
use Rattle.dcm_value.proofs.UnitOrder.Pieces.{units_append}
use Rattle.dcm_value.proofs.UnitOrder.Blocks.{each_of_sixteen}

abbrev pub AreLanes : List ℕ → Type 0
AreLanes v = (length v ≡ 16) × Each1 (Fits w8) v

abbrev pub down : ℕ → ℕ → ℕ
down a b = a / 2 ^ b

high_small : (v : List ℕ) → AreLanes v → Each1 (λ j. j < 16) (zip2 down v (replicate 16 4))
high_small v fits =
    let small = Each1-weaker (λ a. a < 256) (λ a. a / 16 < 16) (λ a h. omega arith) v (below_from_Fits w8 v fits.1) in
    Each1-zip2 down (λ j. j < 16) v (replicate 16 4) (Each2-splat (λ a b. down a b < 16) v 16 4 small)

low_small : (v : List ℕ) → Each1 (λ j. j < 16) (zip2 bit_and v (replicate 16 15))
low_small v =
    let small = Each1-all (λ a. bit_and a 15 < 16) (λ a. omega (arith, and_le_r a 15)) v in
    Each1-zip2 bit_and (λ j. j < 16) v (replicate 16 15) (Each2-splat (λ a b. bit_and a b < 16) v 16 15 small)

-- both halves of a byte are places in the table
pub high_within : (v : List ℕ) → AreLanes v → SwzOk w8 16 16 0 (zip2 down v (replicate 16 4))
high_within v fits =
    SwzOk-from_below w8 16 1 16 0 (zip2 down v (replicate 16 4)) refl (omega (arith, length-zip2 down v (replicate 16 4) fits.0)) (high_small v fits)

pub low_within : (v : List ℕ) → AreLanes v → SwzOk w8 16 16 0 (zip2 bit_and v (replicate 16 15))
low_within v fits =
    SwzOk-from_below w8 16 1 16 0 (zip2 bit_and v (replicate 16 15)) refl (omega (arith, length-zip2 bit_and v (replicate 16 15) fits.0)) (low_small v)

-- a table whose first n bytes are digits
abbrev are_lower : List ℕ → ℕ → Bool
are_lower t zero = true
are_lower t (suc n) = (get_or t n 0 == lower n) && are_lower t n

digit_in : (t : List ℕ) (n d : ℕ) → are_lower t n ≡ true → d < n → get_or t d 0 ≡ lower d
digit_in t zero d e l = absurd (omega arith)
digit_in t (suc n) d e l =
    let parts = and_parts (get_or t n 0 == lower n) (are_lower t n) e in
    elim (cases_lt d n) [
      | inl below ↦ digit_in t n d parts.1 below
      | inr last ↦
          let same : d ≡ n = omega arith in
          rw same (eqb-true (get_or t n 0) (lower n) parts.0)
    ]

looked_up : (t js : List ℕ) → length js ≡ 16 → Each1 (λ j. j < 16) js → are_lower t 16 ≡ true → swz_l w8 16 t 0 js ≡ map lower js
looked_up t js long small table =
    ext_get_or 0 _ _ (length-swz_l w8 16 t 0 js ∙ sym (length-map js lower)) (λ i h.
    let within : i < length js = omega (arith, length-swz_l w8 16 t 0 js) in
    let below : get_or js i 0 < 16 = Each1-get_or (λ j. j < 16) js i 0 within small in
    let place : 16 * ((0 + i) / 16) + get_or js i 0 ≡ get_or js i 0 = omega arith in
    get_or-swz_l_below w8 16 t 0 js i within below
    ∙ ap (λ k. get_or t k 0) place
    ∙ digit_in t 16 (get_or js i 0) table below
    ∙ sym (get_or-map lower js i 0 0 within))

rests : (v : List ℕ) → map (λ x. bit_and x 15) v ≡ map (λ x. x % 16) v
rests [] = refl
rests (x ∷ xs) = ap (λ y. y ∷ map (λ x. bit_and x 15) xs) (and_mask x 4) ∙ ap (λ ys. x % 16 ∷ ys) (rests xs)

in_turn : (v : List ℕ) → length v ≡ 16 → pick_l 0 (map lower (map (λ x. x / 16) v) ++ map lower (map (λ x. x % 16) v)) IN_TURN ≡ flat_map hex_byte v
in_turn v long =
    let P : List ℕ → Type 0 = λ v. pick_l 0 (map lower (map (λ x. x / 16) v) ++ map lower (map (λ x. x % 16) v)) IN_TURN ≡ flat_map hex_byte v in
    each_of_sixteen P (λ a b c d e f g h i j k l m n o p. refl) v long

-- the digits that are looked up
pub digits_shown : (v : List ℕ) → AreLanes v → pick_l 0 (swz_l w8 16 DIGITS 0 (zip2 down v (replicate 16 4)) ++ swz_l w8 16 DIGITS 0 (zip2 bit_and v (replicate 16 15))) IN_TURN ≡ flat_map hex_byte v
digits_shown v fits =
    let high = high_small v fits in
    let low = low_small v in
    let first : swz_l w8 16 DIGITS 0 (zip2 down v (replicate 16 4)) ≡ map lower (map (λ x. x / 16) v) =
    looked_up DIGITS _ (length-zip2 down v (replicate 16 4) fits.0 ∙ fits.0) high refl ∙ ap (map lower) (zip2_splat down v 16 4 fits.0) in
    let second : swz_l w8 16 DIGITS 0 (zip2 bit_and v (replicate 16 15)) ≡ map lower (map (λ x. x % 16) v) =
    looked_up DIGITS _ (length-zip2 bit_and v (replicate 16 15) fits.0 ∙ fits.0) low refl ∙ ap (map lower) (zip2_splat bit_and v 16 15 fits.0 ∙ rests v) in
    ap (λ xs. pick_l 0 (xs ++ swz_l w8 16 DIGITS 0 (zip2 bit_and v (replicate 16 15))) IN_TURN) first
    ∙ ap (λ xs. pick_l 0 (map lower (map (λ x. x / 16) v) ++ xs) IN_TURN) second
    ∙ in_turn v fits.0

-- digits that are shuffled with backslashes
abbrev pub Weaves : List ℕ → ℕ → Bool → Type 0
Weaves positions size is_turned = (v : List ℕ) → length v ≡ 16
    → take (32 + 16 / size) (pick_l 0 (flat_map hex_byte v ++ replicate 32 92) positions) ≡ woven size is_turned v

weaves_by : (positions : List ℕ) (size : ℕ) (is_turned : Bool)
    → ((a b c d e f g h i j k l m n o p : ℕ) → (let v : List ℕ = a ∷ b ∷ c ∷ d ∷ e ∷ f ∷ g ∷ h ∷ i ∷ j ∷ k ∷ l ∷ m ∷ n ∷ o ∷ p ∷ [] in take (32 + 16 / size) (pick_l 0 (flat_map hex_byte v ++ replicate 32 92) positions) ≡ woven size is_turned v))
    → Weaves positions size is_turned
weaves_by positions size is_turned fact v long =
    each_of_sixteen (λ v. take (32 + 16 / size) (pick_l 0 (flat_map hex_byte v ++ replicate 32 92) positions) ≡ woven size is_turned v) fact v long

pub weaves_bytes : (is_turned : Bool) → Weaves BYTES 1 is_turned
weaves_bytes true = weaves_by BYTES 1 true (λ a b c d e f g h i j k l m n o p. refl)
weaves_bytes false = weaves_by BYTES 1 false (λ a b c d e f g h i j k l m n o p. refl)

pub weaves_big_pairs : Weaves BIG_PAIRS 2 false
weaves_big_pairs = weaves_by BIG_PAIRS 2 false (λ a b c d e f g h i j k l m n o p. refl)

pub weaves_little_pairs : Weaves LITTLE_PAIRS 2 true
weaves_little_pairs = weaves_by LITTLE_PAIRS 2 true (λ a b c d e f g h i j k l m n o p. refl)

pub weaves_big_fours : Weaves BIG_FOURS 4 false
weaves_big_fours = weaves_by BIG_FOURS 4 false (λ a b c d e f g h i j k l m n o p. refl)

pub weaves_little_fours : Weaves LITTLE_FOURS 4 true
weaves_little_fours = weaves_by LITTLE_FOURS 4 true (λ a b c d e f g h i j k l m n o p. refl)

pub weaves_big_eights : Weaves BIG_EIGHTS 8 false
weaves_big_eights = weaves_by BIG_EIGHTS 8 false (λ a b c d e f g h i j k l m n o p. refl)

pub weaves_little_eights : Weaves LITTLE_EIGHTS 8 true
weaves_little_eights = weaves_by LITTLE_EIGHTS 8 true (λ a b c d e f g h i j k l m n o p. refl)

-- at the size and order that were asked for
pub woven_by : {s : ℕ} {t : Bool} (positions : List ℕ) (size : ℕ) (is_turned : Bool) (digits v result : List ℕ) → Weaves positions s t → size ≡ s → is_turned ≡ t → length v ≡ 16 → digits ≡ flat_map hex_byte v → result ≡ pick_l 0 (digits ++ replicate 32 92) positions → take (32 + 16 / size) result ≡ woven size is_turned v
woven_by {s} {t} positions size is_turned digits v result weaves same_size same_order long shown is =
    ap (take (32 + 16 / size)) (is ∙ ap (λ xs. pick_l 0 (xs ++ replicate 32 92) positions) shown)
    ∙ ap (λ n. take (32 + 16 / n) (pick_l 0 (flat_map hex_byte v ++ replicate 32 92) positions)) same_size
    ∙ weaves v long
    ∙ ap (λ n. woven n t v) (sym same_size)
    ∙ ap (λ b. woven size b v) (sym same_order)

-- text of whole units before more
pub woven_append : (size n : ℕ) (is_turned : Bool) (a b : List ℕ) → 0 < size → length a ≡ n * size → woven size is_turned (a ++ b) ≡ woven size is_turned a ++ woven size is_turned b
woven_append size n is_turned a b some long =
    ap (separated (unit_digits is_turned)) (units_append size some n a b long) ∙ flat_map-append (λ u. 92 ∷ unit_digits is_turned u) (units size a) (units size b)

-- sixteen bytes are whole units
pub in_sixteen : (size count : ℕ) → IsUnit size → 16 * count ≡ (16 / size * count) * size
in_sixteen size count is =
    elim is [
      | inl one ↦ rw one (omega arith)
      | inr (inl two) ↦ rw two (omega arith)
      | inr (inr (inl four)) ↦ rw four (omega arith)
      | inr (inr (inr eight)) ↦ rw eight (omega arith)
    ]

-- the size of the text of whole blocks
pub text_size : (size count long : ℕ) → IsUnit size → 16 * count ≡ long → (32 + 16 / size) * count ≡ 2 * long + long / size
text_size size count long is whole =
    elim is [
      | inl one ↦ rw one (omega arith)
      | inr (inl two) ↦ rw two (omega arith)
      | inr (inr (inl four)) ↦ rw four (omega arith)
      | inr (inr (inr eight)) ↦ rw eight (omega arith)
    ]

-- a block ends within the text
pub step_room : (size block blocks room : ℕ) → IsUnit size → block < blocks → 3 * (16 * blocks) + 16 ≤ room → (32 + 16 / size) * block + 64 ≤ room
step_room size block blocks room is before h =
    elim is [
      | inl one ↦ rw one (omega arith)
      | inr (inl two) ↦ rw two (omega arith)
      | inr (inr (inl four)) ↦ rw four (omega arith)
      | inr (inr (inr eight)) ↦ rw eight (omega arith)
    ]

pub unit_some : (size : ℕ) → IsUnit size → 0 < size
unit_some size is = omega arith

step_small : (size : ℕ) → IsUnit size → 32 + 16 / size ≤ 64
step_small size is =
    elim is [
      | inl one ↦ rw one (omega arith)
      | inr (inl two) ↦ rw two (omega arith)
      | inr (inr (inl four)) ↦ rw four (omega arith)
      | inr (inr (inr eight)) ↦ rw eight (omega arith)
    ]

-- a part of what was stored, behind what stood there
pub stored_part : (i k : ℕ) (xs ys : List ℕ) → i + length ys ≤ length xs → k ≤ length ys → take (i + k) (put_chunk i xs ys) ≡ take i xs ++ take k ys
stored_part i k xs ys room part =
    let front : length (take i xs) ≡ i = length-take-le i xs (omega arith) in
    ap (take (i + k)) (put_chunk_is i xs ys room)
    ∙ ap (λ n. take (n + k) (take i xs ++ (ys ++ drop (length ys) (drop i xs)))) (sym front)
    ∙ take-append-add (take i xs) (ys ++ drop (length ys) (drop i xs)) k
    ∙ ap (λ zs. take i xs ++ zs) (take-append-le k ys (drop (length ys) (drop i xs)) part)

-- a block behind those that are woven
pub woven_next : (size : ℕ) (is_turned : Bool) (block step : ℕ) (xs text lanes : List ℕ) → IsUnit size → step ≡ 32 + 16 / size → 16 * block + 16 ≤ length xs → step * block + 64 ≤ length text → length lanes ≡ 64
    → take (step * block) text ≡ woven size is_turned (take (16 * block) xs) → take (32 + 16 / size) lanes ≡ woven size is_turned (chunk (16 * block) 16 xs)
    → take (step * (block + 1)) (put_chunk (step * block) text lanes) ≡ woven size is_turned (take (16 * (block + 1)) xs)
woven_next size is_turned block step xs text lanes is stepped within room whole so_far one =
    let some : 0 < size = unit_some size is in
    let part : 32 + 16 / size ≤ 64 = step_small size is in
    let goes : step * (block + 1) ≡ step * block + (32 + 16 / size) = omega (arith, mul-suc step block) in
    let front : length (take (16 * block) xs) ≡ (16 / size * block) * size = length-take-le (16 * block) xs (omega arith) ∙ in_sixteen size block is in
    let next : take (16 * (block + 1)) xs ≡ take (16 * block) xs ++ chunk (16 * block) 16 xs = ap (λ n. take n xs) (let e : 16 * (block + 1) ≡ 16 * block + 16 = omega arith in e) ∙ take-add (16 * block) 16 xs in
    ap (λ n. take n (put_chunk (step * block) text lanes)) goes
    ∙ stored_part (step * block) (32 + 16 / size) text lanes (omega arith) (omega arith)
    ∙ ap (λ ys. ys ++ take (32 + 16 / size) lanes) so_far
    ∙ ap (λ ys. woven size is_turned (take (16 * block) xs) ++ ys) one
    ∙ sym (woven_append size (16 / size * block) is_turned (take (16 * block) xs) (chunk (16 * block) 16 xs) some front)
    ∙ ap (woven size is_turned) (sym next)

-- whole lanes in front of others
pub woven_split : (size : ℕ) (is_turned : Bool) (m : ℕ) (v front back : List ℕ) → IsUnit size → 16 * (m / 16) ≡ m → m ≤ length v → front ≡ take m v → back ≡ drop m v → woven size is_turned v ≡ woven size is_turned front ++ woven size is_turned back
woven_split size is_turned m v front back is whole within f b =
    ap (woven size is_turned) (sym (take-append-drop m v))
    ∙ woven_append size (16 / size * (m / 16)) is_turned (take m v) (drop m v) (unit_some size is) (length-take-le m v within ∙ sym whole ∙ in_sixteen size (m / 16) is)
    ∙ ap (λ xs. woven size is_turned xs ++ woven size is_turned (drop m v)) (sym f)
    ∙ ap (λ xs. woven size is_turned front ++ woven size is_turned xs) (sym b)

-- whole lanes are cut into whole lanes
pub whole_blocks : (m most long : ℕ) → 16 * (most / 16) ≡ most → 16 * (long / 16) ≡ long → m ≡ min long most → (16 * (m / 16) ≡ m) × (m ≤ long) × (16 * ((long - m) / 16) ≡ long - m)
whole_blocks m most long all whole cut = (omega arith, omega arith, omega arith)
