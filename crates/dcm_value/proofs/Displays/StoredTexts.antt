-- Bytes of a text that are stored sixteen at a time.
use Rattle.std.proofs.Common.{◌≡◌, ◌≤◌, ◌<◌, ℕ, zero, suc, ◌+◌, ◌-◌, ◌%◌, ◌^◌, ◌&&◌, Bool, true, false, not, cond, List, [], ◌∷◌, ◌++◌, map, length, take, drop, take-add, get_or, refl, sym, ap, ◌∙◌, arith, Fits, w8}
use Rattle.std.specs.List.{list_all}
use Rattle.std.proofs.lemmas.Bool.{agree_below}
use Rattle.std.proofs.lemmas.Grind.{flat_map-append}
use Rattle.std.proofs.lemmas.Simd.{map-map, mask_l-mod, first_set_mask_l}
use Rattle.std.proofs.lemmas.List.{length-map, take-append-drop}
use Rattle.std.proofs.lemmas.List.Sums.{prefix_len-le-length}
use lib.Lanes.{mask_l, top, Each1, put_chunk}
use Rattle.dcm_lemmas.proofs.Lists.{same_prefix, tail_is}
use Rattle.dcm_base.specs.Dump.ValueText.{escape, escaped}
use Rattle.dcm_value.specs.Plain.{is_plain_byte, plain_size, lowest_of_sixteen}
use Rattle.dcm_value.proofs.Displays.PlainTexts.{plain_escaped}
use Rattle.dcm_value.proofs.UnitOrder.Woven.{stored_part}

-- ---- how many are shown as they are

module _ (v z : List ℕ) (r : ℕ) (long : length v ≡ 16) (fits : Each1 (Fits w8) v)
    (found : r ≡ lowest_of_sixteen (mask_l (map (top 7) z) % 2 ^ 64)) (f : ℕ → ℕ) (lanes : z ≡ map f v)
    (same : agree_below (λ x. not (top 7 (f x))) (λ x. not (not (is_plain_byte x))) 256 ≡ true) where
  abbrev stops : ℕ → Bool
  stops x = top 7 (f x)

  pub counted : r ≡ plain_size v
  counted =
      let mask = ap (λ l. mask_l l % 2 ^ 64) (ap (map (top 7)) lanes ∙ map-map (top 7) f v) ∙ mask_l-mod (map stops v) 64 (omega (arith, length-map v stops, long)) in
      found
      ∙ ap lowest_of_sixteen mask
      ∙ first_set_mask_l stops v 16 long (omega arith)
      ∙ same_prefix (λ x. not (stops x)) (λ x. not (not (is_plain_byte x))) v same fits

pub size_within : (v : List ℕ) → plain_size v ≤ length v
size_within v = prefix_len-le-length (λ b. not (not (is_plain_byte b))) v

front_plain : (v : List ℕ) → list_all is_plain_byte (take (plain_size v) v) ≡ true
front_plain [] = refl
front_plain (b ∷ bs) = go (is_plain_byte b) refl (front_plain bs)
  where
    go : (t : Bool) → is_plain_byte b ≡ t → list_all is_plain_byte (take (plain_size bs) bs) ≡ true
        → list_all is_plain_byte (take (cond (not (not t)) (1 + plain_size bs) 0) (b ∷ bs)) ≡ true
    go true e rest =
        let more : 1 + plain_size bs ≡ suc (plain_size bs) = omega arith in
        ap (λ n. list_all is_plain_byte (take n (b ∷ bs))) more
        ∙ ap (λ t. t && list_all is_plain_byte (take (plain_size bs) bs)) e ∙ rest
    go false e rest = refl

-- ---- what is stored

take_less : (n m : ℕ) (v : List ℕ) → n ≤ m → take n (take m v) ≡ take n v
take_less zero m v l = refl
take_less (suc n) zero v l = absurd (omega arith)
take_less (suc n) (suc m) [] l = refl
take_less (suc n) (suc m) (b ∷ bs) l = ap (λ xs. b ∷ xs) (take_less n m bs (omega arith))

-- those in front of sixteen that are shown as they are
pub front_stored : (end n : ℕ) (text bytes lanes : List ℕ) → end + 16 ≤ length text → length lanes ≡ 16 → lanes ≡ take 16 bytes → n ≡ plain_size lanes → n ≤ 16
    → take (end + n) (put_chunk end text lanes) ≡ take end text ++ escaped (take n bytes)
front_stored end n text bytes lanes room long is size few =
    let front : take n lanes ≡ take n bytes = ap (take n) is ∙ take_less n 16 bytes few in
    let plain : list_all is_plain_byte (take n lanes) ≡ true = ap (λ k. list_all is_plain_byte (take k lanes)) size ∙ front_plain lanes in
    stored_part end n text lanes (omega (arith, long)) (omega (arith, long))
    ∙ ap (λ xs. take end text ++ xs) (sym (plain_escaped (take n lanes) plain) ∙ ap escaped front)

first_behind : (n : ℕ) (v : List ℕ) → n < length v → take 1 (drop n v) ≡ get_or v n 0 ∷ []
first_behind n [] l = absurd (omega arith)
first_behind zero (b ∷ bs) l = refl
first_behind (suc n) (b ∷ bs) l = first_behind n bs (omega arith)

take_one : (n : ℕ) (v : List ℕ) → n < length v → take (n + 1) v ≡ take n v ++ (get_or v n 0 ∷ [])
take_one n v l = take-add n 1 v ∙ ap (λ xs. take n v ++ xs) (first_behind n v l)

-- one byte more
pub escaped_one : (n byte : ℕ) (v : List ℕ) → n < length v → byte ≡ get_or v n 0 → escaped (take (n + 1) v) ≡ escaped (take n v) ++ escape byte
escaped_one n byte v l is =
    ap escaped (take_one n v l)
    ∙ flat_map-append escape (take n v) (get_or v n 0 ∷ [])
    ∙ ap (λ b. escaped (take n v) ++ escaped (b ∷ [])) (sym is)
    ∙ ap (λ xs. escaped (take n v) ++ xs) (none_behind (escape byte))
  where
    none_behind : (xs : List ℕ) → xs ++ [] ≡ xs
    none_behind [] = refl
    none_behind (x ∷ xs) = ap (λ ys. x ∷ ys) (none_behind xs)

-- some more behind those that are shown
escaped_behind : (at n : ℕ) (v : List ℕ) → escaped (take (at + n) v) ≡ escaped (take at v) ++ escaped (take n (drop at v))
escaped_behind at n v = ap escaped (take-add at n v) ∙ flat_map-append escape (take at v) (take n (drop at v))

pub escaped_slice : (at n : ℕ) (v : List ℕ) → escaped (take (at + n) v) ≡ escaped (take at v) ++ escaped (take n (take (length v - at) (drop at v)))
escaped_slice at n v = escaped_behind at n v ∙ ap (λ xs. escaped (take at v) ++ escaped (take n xs)) (sym (tail_is at v))

pub escaped_rest : (at : ℕ) (v : List ℕ) → escaped v ≡ escaped (take at v) ++ escaped (take (length v - at) (drop at v))
escaped_rest at v =
    ap escaped (sym (take-append-drop at v))
    ∙ flat_map-append escape (take at v) (drop at v)
    ∙ ap (λ xs. escaped (take at v) ++ escaped xs) (sym (tail_is at v))
