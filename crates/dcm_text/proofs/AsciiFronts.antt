-- How many of eight bytes are ASCII that is shown as it is, by one mask.
use Rattle.std.proofs.Common.{◌≡◌, ◌≤◌, ℕ, suc, ◌+◌, ◌%◌, ◌^◌, ◌&&◌, Bool, true, false, not, cond, List, [], ◌∷◌, map, length, take, refl, ap, ap₂, ◌∙◌, arith, Fits, w8}
use Rattle.std.specs.List.{list_all}
use Rattle.std.proofs.lemmas.Bool.{agree_below}
use Rattle.std.proofs.lemmas.Simd.{map-map, mask_l-mod, first_set_mask_l}
use Rattle.std.proofs.lemmas.List.{length-map}
use Rattle.std.proofs.lemmas.List.Sums.{prefix_len-le-length}
use lib.Lanes.{zip2, mask_l, top, Each1}
use Rattle.dcm_lemmas.proofs.Lists.{same_prefix}
use Rattle.dcm_text.specs.Ascii.{is_ascii_byte, ascii_size, lowest_of_eight}

zip2-map : (h : ℕ → ℕ → ℕ) (f g : ℕ → ℕ) (xs : List ℕ) → zip2 h (map f xs) (map g xs) ≡ map (λ x. h (f x) (g x)) xs
zip2-map h f g [] = refl
zip2-map h f g (x ∷ xs) = ap (λ r. h (f x) (g x) ∷ r) (zip2-map h f g xs)

-- an operation on lanes that were computed lane by lane from v
pub joined : (h : ℕ → ℕ → ℕ) (f g : ℕ → ℕ) (v : List ℕ) {a b : List ℕ} → a ≡ map f v → b ≡ map g v → zip2 h a b ≡ map (λ x. h (f x) (g x)) v
joined h f g v p q = ap₂ (zip2 h) p q ∙ zip2-map h f g v

module _ (v z : List ℕ) (r : ℕ) (long : length v ≡ 8) (fits : Each1 (Fits w8) v)
    (found : r ≡ lowest_of_eight (mask_l (map (top 7) z) % 2 ^ 64)) (f : ℕ → ℕ) (lanes : z ≡ map f v)
    (same : agree_below (λ x. not (top 7 (f x))) (λ x. not (not (is_ascii_byte x))) 256 ≡ true) where
  abbrev stops : ℕ → Bool
  stops x = top 7 (f x)

  pub counted : r ≡ ascii_size v
  counted =
      let mask = ap (λ l. mask_l l % 2 ^ 64) (ap (map (top 7)) lanes ∙ map-map (top 7) f v) ∙ mask_l-mod (map stops v) 64 (omega (arith, length-map v stops, long)) in
      found
      ∙ ap lowest_of_eight mask
      ∙ first_set_mask_l stops v 8 long (omega arith)
      ∙ same_prefix (λ x. not (stops x)) (λ x. not (not (is_ascii_byte x))) v same fits

-- ---- the bytes in front

pub ascii_front : (v : List ℕ) → list_all is_ascii_byte (take (ascii_size v) v) ≡ true
ascii_front [] = refl
ascii_front (b ∷ bs) = go (is_ascii_byte b) refl (ascii_front bs)
  where
    go : (t : Bool) → is_ascii_byte b ≡ t → list_all is_ascii_byte (take (ascii_size bs) bs) ≡ true
        → list_all is_ascii_byte (take (cond (not (not t)) (1 + ascii_size bs) 0) (b ∷ bs)) ≡ true
    go true e rest =
        let more : 1 + ascii_size bs ≡ suc (ascii_size bs) = omega arith in
        ap (λ n. list_all is_ascii_byte (take n (b ∷ bs))) more
        ∙ ap (λ t. t && list_all is_ascii_byte (take (ascii_size bs) bs)) e ∙ rest
    go false e rest = refl

pub size_within : (v : List ℕ) → ascii_size v ≤ length v
size_within v = prefix_len-le-length (λ b. not (not (is_ascii_byte b))) v
