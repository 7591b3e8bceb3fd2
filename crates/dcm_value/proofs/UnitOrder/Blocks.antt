-- How sixteen bytes at a time are reversed by units.
use Rattle.std.proofs.Common.{ℕ, zero, suc, ◌≡◌, ◌+◌, ◌-◌, ◌*◌, ◌/◌, ◌<◌, ◌≤◌, List, [], ◌∷◌, ◌++◌, length, take, drop, refl, sym, ap, ◌∙◌, arith, append_assoc}
use Rattle.std.specs.Prelude.{reverse}
use Rattle.std.proofs.Math.Nat.{mul-suc, mul_assoc, add-mul-div_left}
use Rattle.std.proofs.Math.Seq.{drop-length}
use Rattle.std.proofs.lemmas.List.{length-drop, take-append-le, drop-append-le, take-append-drop, take_all, append-nil}
use Rattle.std.proofs.lemmas.Simd.{put_chunk_is, length-chunk}
use lib.Lanes.{pick_l, put_chunk, chunk}
use borrow.Rule.Slice.PartMut.{put_mid, mid_of}
use Rattle.dcm_base.specs.Tree.Value.{turned}
use Rattle.dcm_value.proofs.UnitOrder.Reversals.{units_reversed, swapped, swapped_turned, units_reversed-add, length-units_reversed}

-- what lies behind the units stays
pub units_reversed-append : (n count : ℕ) (xs ys : List ℕ) → n * count ≤ length xs
    → units_reversed n count (xs ++ ys) ≡ units_reversed n count xs ++ ys
units_reversed-append n zero xs ys h = refl
units_reversed-append n (suc count) xs ys h =
    let first : n ≤ length xs = omega (arith, mul-suc n count) in
    let room : n * count ≤ length (drop n xs) = omega (arith, mul-suc n count, length-drop n xs) in
    let ih = units_reversed-append n count (drop n xs) ys room in
    let front = take-append-le n xs ys first in
    let back = drop-append-le n xs ys first in
    rw (front, back, ih) (sym (append_assoc (reverse (take n xs)) (units_reversed n count (drop n xs)) ys))

-- a block of sixteen behind those that are done
pub blocks_next : (n count block : ℕ) (xs ys zs : List ℕ) → n * count ≡ 16 → ys ≡ units_reversed n (count * block) xs → 16 * block + 16 ≤ length xs
    → zs ≡ units_reversed n count (chunk (16 * block) 16 ys) → put_chunk (16 * block) ys zs ≡ units_reversed n (count * (block + 1)) xs
blocks_next n count block xs ys zs whole so_far room made =
    let place : n * (count * block) ≡ 16 * block = sym (mul_assoc n count block) ∙ ap (λ k. k * block) whole in
    let long : length ys ≡ length xs = ap length so_far ∙ length-units_reversed n (count * block) xs in
    let sixteen : length (chunk (16 * block) 16 ys) ≡ 16 = length-chunk (16 * block) 16 ys (omega arith) in
    let size : length zs ≡ 16 = ap length made ∙ length-units_reversed n count (chunk (16 * block) 16 ys) ∙ sixteen in
    let stored : put_chunk (16 * block) ys zs ≡ take (16 * block) ys ++ (zs ++ drop (length zs) (drop (16 * block) ys)) = put_chunk_is (16 * block) ys zs (omega arith) in
    let split : drop (16 * block) ys ≡ chunk (16 * block) 16 ys ++ drop 16 (drop (16 * block) ys) = sym (take-append-drop 16 (drop (16 * block) ys)) in
    let kept : units_reversed n count (drop (16 * block) ys) ≡ units_reversed n count (chunk (16 * block) 16 ys) ++ drop 16 (drop (16 * block) ys) =
    ap (λ v. units_reversed n count v) split ∙ units_reversed-append n count (chunk (16 * block) 16 ys) (drop 16 (drop (16 * block) ys)) (omega arith) in
    let added : units_reversed n (count * block + count) xs ≡ take (n * (count * block)) (units_reversed n (count * block) xs) ++ units_reversed n count (drop (n * (count * block)) (units_reversed n (count * block) xs)) =
    units_reversed-add n (count * block) count xs (omega arith) in
    let goes : count * (block + 1) ≡ count * block + count = omega (arith, mul-suc count block) in
    cc

-- the units behind the last whole block
pub blocks_end : (n count blocks k : ℕ) (xs ys zs : List ℕ) → 0 < n → n * count ≡ 16 → ys ≡ units_reversed n (count * blocks) xs → 16 * blocks ≤ length xs
    → k ≡ length ys - 16 * blocks → zs ≡ turned n (mid_of (16 * blocks) k ys) → put_mid (16 * blocks) k ys zs ≡ turned n xs
blocks_end n count blocks k xs ys zs some whole so_far room size made =
    let place : n * (count * blocks) ≡ 16 * blocks = sym (mul_assoc n count blocks) ∙ ap (λ k. k * blocks) whole in
    let long : length ys ≡ length xs = ap length so_far ∙ length-units_reversed n (count * blocks) xs in
    let rest = drop (16 * blocks) ys in
    let rest_size : length rest ≡ k = length-drop (16 * blocks) ys ∙ sym size in
    let all : mid_of (16 * blocks) k ys ≡ rest = take_all k rest (omega arith) in
    let none : drop k rest ≡ [] = ap (λ j. drop j rest) (sym rest_size) ∙ drop-length rest in
    let parts : length xs ≡ length rest + n * (count * blocks) = omega arith in
    let counted : length xs / n ≡ length rest / n + count * blocks = ap (λ j. j / n) parts ∙ add-mul-div_left (length rest) (count * blocks) some in
    let order : length rest / n + count * blocks ≡ count * blocks + length rest / n = omega arith in
    let added : units_reversed n (count * blocks + length rest / n) xs ≡ take (n * (count * blocks)) (units_reversed n (count * blocks) xs) ++ units_reversed n (length rest / n) (drop (n * (count * blocks)) (units_reversed n (count * blocks) xs)) =
    units_reversed-add n (count * blocks) (length rest / n) xs (omega arith) in
    let last : zs ++ drop k rest ≡ zs = ap (λ v. zs ++ v) none ∙ append-nil zs in
    let made_of : zs ≡ swapped n rest = made ∙ ap (turned n) all ∙ sym (swapped_turned n rest) in
    let done : put_mid (16 * blocks) k ys zs ≡ swapped n xs = cc in
    done ∙ swapped_turned n xs

-- a fact of each list of sixteen
pub each_of_sixteen : (P : List ℕ → Type 0) → ((a b c d e f g h i j k l m n o p : ℕ) → P (a ∷ b ∷ c ∷ d ∷ e ∷ f ∷ g ∷ h ∷ i ∷ j ∷ k ∷ l ∷ m ∷ n ∷ o ∷ p ∷ [])) → (xs : List ℕ) → length xs ≡ 16 → P xs
each_of_sixteen P fact (a ∷ b ∷ c ∷ d ∷ e ∷ f ∷ g ∷ h ∷ i ∷ j ∷ k ∷ l ∷ m ∷ n ∷ o ∷ p ∷ []) size = fact a b c d e f g h i j k l m n o p
each_of_sixteen P fact _ size = absurd (omega arith)

-- the lanes of a vector by units of 2
pub lanes_of_pairs : (v : List ℕ) → length v ≡ 16 → pick_l 0 (v ++ v) (1 ∷ 0 ∷ 3 ∷ 2 ∷ 5 ∷ 4 ∷ 7 ∷ 6 ∷ 9 ∷ 8 ∷ 11 ∷ 10 ∷ 13 ∷ 12 ∷ 15 ∷ 14 ∷ []) ≡ units_reversed 2 8 v
lanes_of_pairs v size =
    let P : List ℕ → Type 0 = λ v. pick_l 0 (v ++ v) (1 ∷ 0 ∷ 3 ∷ 2 ∷ 5 ∷ 4 ∷ 7 ∷ 6 ∷ 9 ∷ 8 ∷ 11 ∷ 10 ∷ 13 ∷ 12 ∷ 15 ∷ 14 ∷ []) ≡ units_reversed 2 8 v in
    each_of_sixteen P (λ a b c d e f g h i j k l m n o p. refl) v size

-- the lanes of a vector by units of 4
pub lanes_of_fours : (v : List ℕ) → length v ≡ 16 → pick_l 0 (v ++ v) (3 ∷ 2 ∷ 1 ∷ 0 ∷ 7 ∷ 6 ∷ 5 ∷ 4 ∷ 11 ∷ 10 ∷ 9 ∷ 8 ∷ 15 ∷ 14 ∷ 13 ∷ 12 ∷ []) ≡ units_reversed 4 4 v
lanes_of_fours v size =
    let P : List ℕ → Type 0 = λ v. pick_l 0 (v ++ v) (3 ∷ 2 ∷ 1 ∷ 0 ∷ 7 ∷ 6 ∷ 5 ∷ 4 ∷ 11 ∷ 10 ∷ 9 ∷ 8 ∷ 15 ∷ 14 ∷ 13 ∷ 12 ∷ []) ≡ units_reversed 4 4 v in
    each_of_sixteen P (λ a b c d e f g h i j k l m n o p. refl) v size

-- the lanes of a vector by units of 8
pub lanes_of_eights : (v : List ℕ) → length v ≡ 16 → pick_l 0 (v ++ v) (7 ∷ 6 ∷ 5 ∷ 4 ∷ 3 ∷ 2 ∷ 1 ∷ 0 ∷ 15 ∷ 14 ∷ 13 ∷ 12 ∷ 11 ∷ 10 ∷ 9 ∷ 8 ∷ []) ≡ units_reversed 8 2 v
lanes_of_eights v size =
    let P : List ℕ → Type 0 = λ v. pick_l 0 (v ++ v) (7 ∷ 6 ∷ 5 ∷ 4 ∷ 3 ∷ 2 ∷ 1 ∷ 0 ∷ 15 ∷ 14 ∷ 13 ∷ 12 ∷ 11 ∷ 10 ∷ 9 ∷ 8 ∷ []) ≡ units_reversed 8 2 v in
    each_of_sixteen P (λ a b c d e f g h i j k l m n o p. refl) v size
