-- Some bytes of a text at a time.
use Rattle.std.proofs.Common.{◌≡◌, ◌<◌, ℕ, zero, suc, ◌+◌, ◌*◌, ◌/◌, ◌^◌, ◌==◌, ◌&&◌, ◌||◌, not, cond, eqb, eqb-true, ltb, Bool, true, false, List, [], ◌∷◌, ◌++◌, length, take, drop, take-add, map, refl, sym, ap, ◌∙◌, arith, append_assoc}
use Rattle.std.specs.Prelude.{nat_lt, count_by}
use Rattle.std.specs.List.{list_all, list_any}
use Rattle.std.proofs.lemmas.List.{take-append-drop, length-drop, take_all}
use Rattle.std.proofs.lemmas.List.Sums.{sum_by-append}
use lib.Lanes.{chunk, mask_l, zip2}
use lib.ListN.{replicate}
use lib.Count.{ones}
use native.Mathlib.Nat.{div-one, zero-div, pow-suc, mul_comm, div-div-eq-div-mul}
use Rattle.std.proofs.lemmas.Simd.{ones-mask_l}
use Rattle.std.proofs.lemmas.Grind.{flat_map-append}
use Rattle.dcm_base.specs.Dump.ValueText.{escape, escaped}
use Rattle.dcm_value.specs.Plain.{is_plain_byte, is_ascii_byte}

-- a mask with a bit
abbrev pub is_set : ℕ → Bool
is_set n = not (n == 0)

set_some : (n : ℕ) → 0 < n → is_set n ≡ true
set_some n some = go (n == 0) refl
  where
    go : (t : Bool) → (n == 0) ≡ t → not t ≡ true
    go true e = absurd (omega (arith, eqb-true n 0 e))
    go false e = refl

set_more : (n : ℕ) → is_set (0 + 2 * n) ≡ is_set n
set_more zero = refl
set_more (suc n) = set_some (0 + 2 * suc n) (omega arith) ∙ sym (set_some (suc n) (omega arith))

set_next : (t rest : Bool) (n : ℕ) → is_set n ≡ rest → is_set (cond t 1 0 + 2 * n) ≡ (t || rest)
set_next true rest n e = set_some (1 + 2 * n) (omega arith)
set_next false rest n e = set_more n ∙ e

any_set : (p : ℕ → Bool) (v : List ℕ) → is_set (mask_l (map p v)) ≡ list_any p v
any_set p [] = refl
any_set p (x ∷ xs) = set_next (p x) (list_any p xs) (mask_l (map p xs)) (any_set p xs)

-- two tests are one
or_swap : (a b c d : Bool) → (a || c) || (b || d) ≡ (a || b) || (c || d)
or_swap true true c d = refl
or_swap true false true d = refl
or_swap true false false d = refl
or_swap false true true d = refl
or_swap false true false d = refl
or_swap false false c d = refl

any_or : (p q : ℕ → Bool) (v : List ℕ) → list_any p v || list_any q v ≡ list_any (λ x. p x || q x) v
any_or p q [] = refl
any_or p q (x ∷ xs) = or_swap (p x) (q x) (list_any p xs) (list_any q xs) ∙ ap (λ t. (p x || q x) || t) (any_or p q xs)

any_not : (p : ℕ → Bool) (v : List ℕ) → list_any p v ≡ not (list_all (λ x. not (p x)) v)
any_not p [] = refl
any_not p (x ∷ xs) = go (p x) (any_not p xs)
  where
    go : (t : Bool) → list_any p xs ≡ not (list_all (λ x. not (p x)) xs) → (t || list_any p xs) ≡ not (not t && list_all (λ x. not (p x)) xs)
    go true e = refl
    go false e = e

abbrev escapes : ℕ → Bool
escapes b = nat_lt b 32 || b == 127 || b == 37 || b == 93

-- the mask of a test of some bytes
pub mask_any : (t : ℕ → ℕ → Bool) (v : List ℕ) (n y : ℕ) → n ≡ mask_l (map (λ x. t x y) v) → is_set n ≡ list_any (λ x. t x y) v
mask_any t v n y e = ap is_set e ∙ any_set (λ x. t x y) v

-- a test of the same byte beside some bytes, the other way round
pub turned_round : (f : ℕ → ℕ → ℕ) (n y : ℕ) (v : List ℕ) → zip2 f (replicate n y) v ≡ zip2 (λ a b. f b a) v (replicate n y)
turned_round f zero y [] = refl
turned_round f zero y (x ∷ xs) = refl
turned_round f (suc n) y [] = refl
turned_round f (suc n) y (x ∷ xs) = ap (λ l. f y x ∷ l) (turned_round f n y xs)

pub escapes_any : (v : List ℕ) → (list_any (λ x. ltb x 32) v || list_any (λ x. eqb x 127) v || list_any (λ x. eqb x 37) v || list_any (λ x. eqb x 93) v) ≡ not (list_all is_plain_byte v)
escapes_any v =
    let controls : ℕ → Bool = λ x. nat_lt x 32 in
    let deletes : ℕ → Bool = λ x. x == 127 in
    let percents : ℕ → Bool = λ x. x == 37 in
    let brackets : ℕ → Bool = λ x. x == 93 in
    ap (λ t. (t || list_any percents v) || list_any brackets v) (any_or controls deletes v)
    ∙ ap (λ t. t || list_any brackets v) (any_or (λ x. controls x || deletes x) percents v)
    ∙ any_or (λ x. (controls x || deletes x) || percents x) brackets v
    ∙ any_not escapes v

pub others_any : (v : List ℕ) → (list_any (λ x. ltb x 32) v || list_any (λ x. nat_lt 126 x) v || list_any (λ x. eqb x 37) v || list_any (λ x. eqb x 93) v) ≡ not (list_all is_ascii_byte v)
others_any v =
    let controls : ℕ → Bool = λ x. nat_lt x 32 in
    let above : ℕ → Bool = λ x. nat_lt 126 x in
    let percents : ℕ → Bool = λ x. x == 37 in
    let brackets : ℕ → Bool = λ x. x == 93 in
    ap (λ t. (t || list_any percents v) || list_any brackets v) (any_or controls above v)
    ∙ ap (λ t. t || list_any brackets v) (any_or (λ x. controls x || above x) percents v)
    ∙ any_or (λ x. (controls x || above x) || percents x) brackets v
    ∙ any_not (λ b. nat_lt b 32 || nat_lt 126 b || b == 37 || b == 93) v

-- what is plain piece by piece
pub all_append : (p : ℕ → Bool) (v w : List ℕ) → list_all p (v ++ w) ≡ (list_all p v && list_all p w)
all_append p [] w = refl
all_append p (x ∷ xs) w = go (p x) (all_append p xs w)
  where
    go : (t : Bool) → list_all p (xs ++ w) ≡ (list_all p xs && list_all p w) → (t && list_all p (xs ++ w)) ≡ ((t && list_all p xs) && list_all p w)
    go true e = e
    go false e = refl

pub or_alike : {a b c d w x y z : Bool} → a ≡ w → b ≡ x → c ≡ y → d ≡ z → ((a || b) || c) || d ≡ ((w || x) || y) || z
or_alike p q r s = cc

-- eight bytes more that are plain, and the last ones
pub plain_more : (p : ℕ → Bool) (v : List ℕ) (n m : ℕ) → list_all p (take n v) ≡ true → list_all p (chunk n m v) ≡ true → list_all p (take (n + m) v) ≡ true
plain_more p v n m so_far next = ap (list_all p) (take-add n m v) ∙ all_append p (take n v) (chunk n m v) ∙ ap (λ t. t && list_all p (chunk n m v)) so_far ∙ next

pub plain_not : (p : ℕ → Bool) (v : List ℕ) (n m : ℕ) → list_all p (chunk n m v) ≡ false → list_all p v ≡ false
plain_not p v n m fails =
    ap (list_all p) (sym (take-append-drop n v))
    ∙ all_append p (take n v) (drop n v)
    ∙ ap (λ t. list_all p (take n v) && t) (ap (list_all p) (sym (take-append-drop m (drop n v))) ∙ all_append p (chunk n m v) (drop m (drop n v)) ∙ ap (λ t. t && list_all p (drop m (drop n v))) fails)
    ∙ and_false (list_all p (take n v))
  where
    and_false : (t : Bool) → (t && false) ≡ false
    and_false true = refl
    and_false false = refl

pub plain_all : (p : ℕ → Bool) (v : List ℕ) (n : ℕ) → list_all p (take n v) ≡ true → list_all p v ≡ list_all p (drop n v)
plain_all p v n so_far = ap (list_all p) (sym (take-append-drop n v)) ∙ all_append p (take n v) (drop n v) ∙ ap (λ t. t && list_all p (drop n v)) so_far

-- whole blocks and what is behind them
pub plain_both : (p : ℕ → Bool) (v : List ℕ) (n : ℕ) → (list_all p (take n v) && list_all p (drop n v)) ≡ list_all p v
plain_both p v n = sym (ap (list_all p) (sym (take-append-drop n v)) ∙ all_append p (take n v) (drop n v))

-- backslashes of eight bytes more, and of the last ones
pub count_more : (p : ℕ → Bool) (v : List ℕ) (n m : ℕ) → count_by p (take (n + m) v) ≡ count_by p (take n v) + count_by p (chunk n m v)
count_more p v n m = ap (count_by p) (take-add n m v) ∙ sum_by-append (λ x. cond (p x) 1 0) (take n v) (chunk n m v)

pub count_all : (p : ℕ → Bool) (v : List ℕ) (n : ℕ) → count_by p v ≡ count_by p (take n v) + count_by p (drop n v)
count_all p v n = ap (count_by p) (sym (take-append-drop n v)) ∙ sum_by-append (λ x. cond (p x) 1 0) (take n v) (drop n v)

pub none_escaped : {t s : Bool} → t ≡ not s → t ≡ false → s ≡ true
none_escaped {t} {s} e f = go s (sym f ∙ e)
  where
    go : (u : Bool) → false ≡ not u → u ≡ true
    go true h = refl
    go false h = cc

pub some_escaped : {t s : Bool} → t ≡ not s → t ≡ true → s ≡ false
some_escaped {t} {s} e f = go s (sym f ∙ e)
  where
    go : (u : Bool) → true ≡ not u → u ≡ false
    go true h = cc
    go false h = refl

-- the last ones looked at again
pub plain_less : (p : ℕ → Bool) (v : List ℕ) (m k : ℕ) → list_all p (take (m + k) v) ≡ true → list_all p (take m v) ≡ true
plain_less p v m k so_far = first (list_all p (take m v)) (list_all p (chunk m k v)) (sym (ap (list_all p) (take-add m k v) ∙ all_append p (take m v) (chunk m k v)) ∙ so_far)
  where
    first : (t u : Bool) → (t && u) ≡ true → t ≡ true
    first true u e = refl
    first false u e = cc

pub not_twice : (t : Bool) → not (not t) ≡ t
not_twice true = refl
not_twice false = refl

-- the last eight bytes
pub last_lanes : (v last : List ℕ) (n : ℕ) → last ≡ drop n v → n + 8 ≡ length v → chunk 0 8 last ≡ drop n v
last_lanes v last n e long = ap (take 8) e ∙ take_all 8 (drop n v) (omega (arith, length-drop n v))

-- a mask without its first bits
half : (m : Bool) (n : ℕ) → (cond m 1 0 + 2 * n) / 2 ≡ n
half true n = omega arith
half false n = omega arith

mask_behind : (p : ℕ → Bool) (k : ℕ) (v : List ℕ) → mask_l (map p v) / 2 ^ k ≡ mask_l (map p (drop k v))
mask_behind p zero v = div-one (mask_l (map p v))
mask_behind p (suc k) [] = zero-div (2 ^ suc k)
mask_behind p (suc k) (x ∷ xs) =
    ap (λ n. mask_l (map p (x ∷ xs)) / n) (pow-suc 2 k ∙ mul_comm (2 ^ k) 2)
    ∙ sym (div-div-eq-div-mul (mask_l (map p (x ∷ xs))) 2 (2 ^ k))
    ∙ ap (λ n. n / 2 ^ k) (half (p x) (mask_l (map p xs)))
    ∙ mask_behind p k xs

pub ones_behind : (p : ℕ → Bool) (k : ℕ) (v : List ℕ) → ones (mask_l (map p v) / 2 ^ k) ≡ count_by p (drop k v)
ones_behind p k v = ap ones (mask_behind p k v) ∙ ones-mask_l p (drop k v)
