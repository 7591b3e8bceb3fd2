-- How the units are reversed one after the other.
use Rattle.std.proofs.Common.{ℕ, zero, suc, ◌≡◌, ◌+◌, ◌*◌, ◌/◌, ◌<◌, ◌≤◌, List, ◌++◌, length, take, drop, drop-drop, suc-mul, refl, sym, ap, ◌∙◌, arith, zero-add, append_assoc}
use Rattle.std.specs.Prelude.{reverse, flat_map}
use Rattle.std.proofs.Math.Nat.{mul-suc, mul-zero, suc-add, mul-le-mul_left, mul-div-le}
use Rattle.std.proofs.Math.Seq.{take-append-add, drop-append-add}
use Rattle.std.proofs.lemmas.List.{length-take, length-take-le, length-reverse, length-append, length-drop}
use borrow.Rule.Slice.PartMut.{put_mid, mid_of}
use Rattle.dcm_base.specs.Tree.Value.{pieces, turned}
use Rattle.dcm_base.proofs.Conversions.OrderLaws.{turned_bytes}

-- the first units of n bytes reversed, and what follows them
abbrev pub units_reversed : (n count : ℕ) → List ℕ → List ℕ
units_reversed n zero xs = xs
units_reversed n (suc count) xs = reverse (take n xs) ++ units_reversed n count (drop n xs)

-- each whole unit reversed
abbrev pub swapped : ℕ → List ℕ → List ℕ
swapped n xs = units_reversed n (length xs / n) xs

units_turned : (n count : ℕ) (xs : List ℕ) → units_reversed n count xs ≡ flat_map reverse (pieces count n xs) ++ drop (count * n) xs
units_turned n zero xs = ap (λ k. drop k xs) (let e : 0 ≡ 0 * n = omega arith in e)
units_turned n (suc count) xs =
    ap (λ ys. reverse (take n xs) ++ ys) (units_turned n count (drop n xs))
    ∙ sym (append_assoc (reverse (take n xs)) (flat_map reverse (pieces count n (drop n xs))) (drop (count * n) (drop n xs)))
    ∙ ap (λ ys. (reverse (take n xs) ++ flat_map reverse (pieces count n (drop n xs))) ++ ys) (drop-drop (count * n) n xs ∙ ap (λ k. drop k xs) (let e : n + count * n ≡ suc count * n = omega (arith, suc-mul count n) in e))

pub swapped_turned : (n : ℕ) (xs : List ℕ) → swapped n xs ≡ turned n xs
swapped_turned n xs = units_turned n (length xs / n) xs

-- first some units, and then more of them behind
pub units_reversed-add : (n count more : ℕ) (xs : List ℕ) → n * count ≤ length xs
    → units_reversed n (count + more) xs
    ≡ take (n * count) (units_reversed n count xs) ++ units_reversed n more (drop (n * count) (units_reversed n count xs))
units_reversed-add n zero more xs h = rw (zero-add more, mul-zero n) refl
units_reversed-add n (suc count) more xs h =
    let first = reverse (take n xs) in
    let rest = units_reversed n count (drop n xs) in
    let size : length first ≡ n = length-reverse (take n xs) ∙ length-take-le n xs (omega (arith, mul-suc n count)) in
    let room : n * count ≤ length (drop n xs) = omega (arith, mul-suc n count, length-drop n xs) in
    let place : n * suc count ≡ length first + n * count = omega (arith, mul-suc n count) in
    let front : take (n * suc count) (first ++ rest) ≡ first ++ take (n * count) rest = ap (λ k. take k (first ++ rest)) place ∙ take-append-add first rest (n * count) in
    let back : drop (n * suc count) (first ++ rest) ≡ drop (n * count) rest = ap (λ k. drop k (first ++ rest)) place ∙ drop-append-add first rest (n * count) in
    let more_of : units_reversed n (suc count + more) xs ≡ first ++ units_reversed n (count + more) (drop n xs) = rw (suc-add count more) refl in
    more_of ∙ ap (λ ys. first ++ ys) (units_reversed-add n count more (drop n xs) room)
    ∙ sym (append_assoc first (take (n * count) rest) (units_reversed n more (drop (n * count) rest)))
    ∙ sym (ap (λ ys. ys ++ units_reversed n more (drop (n * count) rest)) front)
    ∙ sym (ap (λ ys. take (n * suc count) (first ++ rest) ++ units_reversed n more ys) back)

-- the length stays
pub length-units_reversed : (n count : ℕ) (xs : List ℕ) → length (units_reversed n count xs) ≡ length xs
length-units_reversed n zero xs = refl
length-units_reversed n (suc count) xs =
    simp (length-append, length-reverse, length-units_reversed n count (drop n xs)) (omega (arith, length-take n xs, length-drop n xs))

-- the unit behind those that are reversed already
pub units_reversed-next : (n count k : ℕ) (xs ys zs : List ℕ) → ys ≡ units_reversed n count xs → n * count + n ≤ length xs → k ≡ n
    → zs ≡ reverse (mid_of (n * count) k ys) → put_mid (n * count) k ys zs ≡ units_reversed n (count + 1) xs
units_reversed-next n count k xs ys zs so_far room size last =
    let whole = units_reversed-add n count 1 xs (omega arith) in
    cc

-- a unit before the last whole one ends within the list
pub unit_room : (n unit size : ℕ) → unit < size / n → n * unit + n ≤ size
unit_room n unit size h =
    let below : n * (unit + 1) ≤ n * (size / n) = mul-le-mul_left n (omega arith) in
    let whole = mul-div-le n size in
    omega (arith, below, whole, mul-suc n unit)

-- units of one byte
pub turned-one : (unit : ℕ) (xs : List ℕ) → unit ≡ 1 → xs ≡ turned unit xs
turned-one unit xs one = sym (ap (λ n. turned n xs) one ∙ turned_bytes xs)
