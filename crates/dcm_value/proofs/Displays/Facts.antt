-- Facts on what is shown of a value.
use Rattle.std.proofs.Common.{◌≡◌, ◌≤◌, ℕ, ◌+◌, ◌-◌, min, replicate, List, [], ◌∷◌, ◌++◌, length, take, drop, ap, sym, ◌∙◌, arith, subst, slice_index_or, Result, Ok, Err}
use Rattle.std.specs.Prelude.{OnOk, OnErr}
use Rattle.std.proofs.lemmas.List.{take_all, take_min, length-take, length-append, drop-replicate, take-append-le}
use Rattle.dcm_base.specs.declared.mode.Mode.{Mode}
use Rattle.dcm_base.specs.declared.mode.Mode.TheVariants.{Short, Full}
use Rattle.dcm_value.specs.Display.{front_size}
use Rattle.std.proofs.Math.Seq.{take-append-add}

-- as many of the bytes as there is room for
pub fills : (n room : ℕ) (xs ys : List ℕ) → room + length xs ≡ n → xs ++ take (min room (length ys)) ys ≡ take n (xs ++ ys)
fills n room xs ys e =
    ap (λ zs. xs ++ zs) (take_min room ys) ∙ sym (take-append-add xs ys room) ∙ ap (λ k. take k (xs ++ ys)) (let f : length xs + room ≡ n = omega arith in f)

-- a byte alone, where there is room
fills_byte : (xs new : List ℕ) (byte : ℕ) {T E : Type 0} (r : Result T E) → OnOk r (new ≡ xs ++ byte ∷ []) → length new ≤ 66 → OnErr r (new ≡ xs) → OnErr r (length xs ≡ 66) → new ≡ take 66 (xs ++ byte ∷ [])
fills_byte xs new byte (Ok x) ok fits err full = ok ∙ sym (take_all 66 (xs ++ byte ∷ []) (subst (λ l. length l ≤ 66) ok fits))
fills_byte xs new byte (Err x) ok fits err full =
    let e : length xs ≡ 66 = full in
    err ∙ sym (take_all 66 xs (let l : length xs ≤ 66 = omega arith in l)) ∙ sym (take-append-le 66 xs (byte ∷ []) (omega arith))

pub fills_one : (xs ys new : List ℕ) {T E : Type 0} (r : Result T E) → length ys ≡ 1 → OnOk r (new ≡ xs ++ slice_index_or ys 0 0 ∷ []) → length new ≤ 66 → OnErr r (new ≡ xs) → OnErr r (length xs ≡ 66) → new ≡ take 66 (xs ++ ys)
fills_one xs [] new r one ok fits err full = absurd cc
fills_one xs (y ∷ []) new r one ok fits err full = fills_byte xs new y r ok fits err full
fills_one xs (y ∷ z ∷ more) new r one ok fits err full = absurd cc

-- spaces are cut from forty
pub spaces : (n m : ℕ) → m ≡ min n 40 → drop {A = ℕ} m (replicate 40 32) ≡ replicate (40 - n) 32
spaces n m e = drop-replicate m 40 32 ∙ ap (λ k. replicate k 32) (let f : 40 - m ≡ 40 - n = omega arith in f)

-- the first 63 bytes
pub cuts : (front : List ℕ) (cut : ℕ) → cut ≡ min (length front) 63 → take cut front ≡ take 63 front
cuts front cut e = ap (λ k. take k front) (let f : cut ≡ min 63 (length front) = omega arith in f) ∙ take_min 63 front

-- the front stays filled
pub filled_full : (mode : Mode) (front : List ℕ) (m n : ℕ) → mode ≡ Full → length front ≡ front_size mode m → length front ≡ front_size mode n
filled_full mode front m n e h = h ∙ ap (λ x. front_size x m) e ∙ sym (ap (λ x. front_size x n) e)

pub filled_short : (mode : Mode) (front more : List ℕ) (m n : ℕ) (after : List ℕ) → mode ≡ Short → length front ≡ front_size mode m → m ≤ 67 → after ≡ take 66 (front ++ more) → n ≡ min 67 (m + length more) → length after ≡ front_size mode n
filled_short mode front more m n after e h l a b =
    let was : length front ≡ min 66 m = h ∙ ap (λ x. front_size x m) e in
    let long : length after ≡ min 66 (length front + length more) = ap length a ∙ length-take 66 (front ++ more) ∙ ap (min 66) (length-append front more) in
    let is : length after ≡ min 66 n = omega arith in
    is ∙ sym (ap (λ x. front_size x n) e)
