-- How many bytes in front stand in a string as they are.
use Rattle.std.proofs.Common.{◌≡◌, ◌≤◌, ◌<◌, ℕ, zero, suc, ◌+◌, ◌%◌, ◌^◌, ◌&&◌, Bool, true, false, not, cond, List, [], ◌∷◌, map, length, take, drop, Option, Some, None, refl, sym, ap, ◌∙◌, arith, Fits, w8}
use Rattle.std.specs.Prelude.{nat_lt}
use Rattle.std.specs.List.{list_all, position}
use Rattle.std.proofs.lemmas.Bool.{agree_below, and_parts}
use Rattle.std.proofs.lemmas.Bool.Decides.{nat_tests}
use Rattle.std.proofs.lemmas.Simd.{map-map, mask_l-mod, first_set_mask_l}
use Rattle.std.proofs.lemmas.List.{length-map}
use Rattle.std.proofs.lemmas.List.Sums.{prefix_len-le-length}
use lib.Lanes.{mask_l, top, Each1}
use Rattle.dcm_lemmas.proofs.Lists.{same_prefix}
use Rattle.dcm_json.specs.Escaped.{is_plain_byte, plain_size, lowest_of_sixteen}

-- ---- of sixteen, by one mask

module _ (v z : List ℕ) (r : ℕ) (long : length v ≡ 16) (fits : Each1 (Fits w8) v)
    (found : r ≡ lowest_of_sixteen (mask_l (map (top 7) z) % 2 ^ 64)) (f : ℕ → ℕ) (lanes : z ≡ map f v)
    (same : agree_below (λ x. not (top 7 (f x))) (λ x. not (not (is_plain_byte x))) 256 ≡ true) where
  abbrev stops : ℕ → Bool
  stops x = top 7 (f x)

  pub counted : r ≡ plain_size v
  counted =
      let mask = ap (λ l. mask_l l % 2 ^ 64) (ap (map (top 7)) lanes ∙ map-map (top 7) f v) ∙ mask_l-mod (map stops v) 64 (omega (arith, length-map v stops, long)) in
      found
      ∙ ap lowest_of_sixteen mask
      ∙ first_set_mask_l stops v 16 long (omega arith)
      ∙ same_prefix (λ x. not (stops x)) (λ x. not (not (is_plain_byte x))) v same fits

pub size_within : (v : List ℕ) → plain_size v ≤ length v
size_within v = prefix_len-le-length (λ b. not (not (is_plain_byte b))) v

-- ---- those in front

pub front_plain : (v : List ℕ) → list_all is_plain_byte (take (plain_size v) v) ≡ true
front_plain [] = refl
front_plain (b ∷ bs) = go (is_plain_byte b) refl (front_plain bs)
  where
    go : (t : Bool) → is_plain_byte b ≡ t → list_all is_plain_byte (take (plain_size bs) bs) ≡ true
        → list_all is_plain_byte (take (cond (not (not t)) (1 + plain_size bs) 0) (b ∷ bs)) ≡ true
    go true e rest =
        let more : 1 + plain_size bs ≡ suc (plain_size bs) = omega arith in
        ap (λ n. list_all is_plain_byte (take n (b ∷ bs))) more
        ∙ ap (λ t. t && list_all is_plain_byte (take (plain_size bs) bs)) e ∙ rest
    go false e rest = refl

-- all of them are so
all_of : (b : ℕ) (bs : List ℕ) (t : Bool) → is_plain_byte b ≡ t → length (b ∷ bs) ≤ cond (not (not t)) (1 + plain_size bs) 0
    → (length bs ≤ plain_size bs → list_all is_plain_byte bs ≡ true) → list_all is_plain_byte (b ∷ bs) ≡ true
all_of b bs true e l rest = ap (λ (t : Bool). t && list_all is_plain_byte bs) e ∙ rest (omega (arith, l))
all_of b bs false e l rest = absurd (omega (arith, l))

pub size_all : (v : List ℕ) → length v ≤ plain_size v → list_all is_plain_byte v ≡ true
size_all [] l = refl
size_all (b ∷ bs) l = all_of b bs (is_plain_byte b) refl l (size_all bs)

-- fewer of them are so
less_of : (n : ℕ) (bs : List ℕ) (t : Bool) → cond (not (not t)) (1 + plain_size (take n bs)) 0 < suc n
    → (plain_size (take n bs) < n → plain_size bs ≡ plain_size (take n bs))
    → cond (not (not t)) (1 + plain_size bs) 0 ≡ cond (not (not t)) (1 + plain_size (take n bs)) 0
less_of n bs true l rest = ap (λ (k : ℕ). 1 + k) (rest (omega (arith, l)))
less_of n bs false l rest = refl

pub size_less : (n : ℕ) (v : List ℕ) → plain_size (take n v) < n → n ≤ length v → plain_size v ≡ plain_size (take n v)
size_less zero v l m = absurd (omega (arith, l))
size_less (suc n) [] l m = absurd (omega (arith, m))
size_less (suc n) (b ∷ bs) l m = less_of n bs (is_plain_byte b) l (λ less. size_less n bs less (omega (arith, m)))

-- behind some of them
pub size_behind : (v : List ℕ) (n : ℕ) → n ≤ length v → list_all is_plain_byte (take n v) ≡ true → n + plain_size (drop n v) ≡ plain_size v
size_behind [] zero l e = omega arith
size_behind [] (suc n) l e = absurd (omega (arith, l))
size_behind (b ∷ bs) zero l e = omega arith
size_behind (b ∷ bs) (suc n) l e =
    let both = and_parts (is_plain_byte b) (list_all is_plain_byte (take n bs)) e in
    let rest : n + plain_size (drop n bs) ≡ plain_size bs = size_behind bs n (omega (arith, l)) both.1 in
    let more : suc n + plain_size (drop n bs) ≡ 1 + plain_size bs = omega (arith, rest) in
    more ∙ sym (ap (λ (t : Bool). cond (not (not t)) (1 + plain_size bs) 0) both.0)

-- ---- the place of the first other byte

pub size_found : (v : List ℕ) (at : ℕ) → position (λ b. not (is_plain_byte b)) v ≡ Some at → at ≡ plain_size v
size_found v at e = go (nat_lt (plain_size v) (length v)) e
  where
    go : (t : Bool) → cond t (Some (plain_size v)) None ≡ Some at → at ≡ plain_size v
    go true h = let same : plain_size v ≡ at = cc in sym same
    go false h = let e : at ≡ plain_size v = cc in e

pub size_none : (v : List ℕ) → position (λ b. not (is_plain_byte b)) v ≡ None → length v ≡ plain_size v
size_none v e = let h = not_less (plain_size v) (length v) (go (nat_lt (plain_size v) (length v)) refl e) in omega (arith, h, size_within v)
  where
    go : (t : Bool) → nat_lt (plain_size v) (length v) ≡ t → cond t (Some (plain_size v)) None ≡ None → nat_lt (plain_size v) (length v) ≡ false
    go true f h = absurd (some_none (plain_size v) h)
      where
        some_none : (n : ℕ) → (let o : Option ℕ = Some n in o ≡ None) → ⊥
        some_none n h = cc
    go false f h = f

    not_less : (m n : ℕ) → nat_lt m n ≡ false → n ≤ m
    not_less m n e = grind (arith, nat_tests)
