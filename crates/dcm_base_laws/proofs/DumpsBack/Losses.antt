-- What a full dump loses of a data set is not written.
use Rattle.std.proofs.Common.{◌≡◌, ℕ, suc, ◌<◌, ◌-◌, ◌%◌, List, [], ◌∷◌, ◌++◌, length, take, Bool, true, false, ◌&&◌, refl, sym, ◌∙◌, ap, arith, not}
use Rattle.std.specs.Prelude.{if◌then◌else◌, ◌==◌, slice_index, nat_lt}
use Rattle.std.proofs.lemmas.Bool.Decides.{nat_tests}
use Rattle.std.proofs.lemmas.List.{length-take-le}
use Rattle.dcm_base.proofs.Conversions.OrderLaws.{turned_bytes}
use Rattle.dcm_lemmas.proofs.Lists.{joined_alike}
use Rattle.dcm_lemmas.proofs.Numbers.{equal_numbers}
use Rattle.dcm_lemmas.proofs.Truth.{and_first, and_second}
use Rattle.dcm_base.specs.declared.tag.Tag.{Tag}
use Rattle.dcm_base.specs.declared.vr.Vr.{Vr}
use Rattle.dcm_base.specs.declared.vr.Vr.TheVariants.{AE, AS, CS, DA, DS, DT, IS, LO, LT, PN, SH, SQ, ST, TM, UC, UI, UN, UR, UT}
use Rattle.dcm_base.specs.declared.syntax.Syntax.{Syntax}
use Rattle.dcm_base.specs.declared.syntax.Syntax.TheVariants.{Implicit as implicit_in, Little as little_in, Big as big_in}
use Rattle.dcm_base.specs.declared.length.Length.TheVariants.{Known, Undefined}
use Rattle.dcm_base.specs.Tree.Tree.{Trees, no_tree, leaf, sequence, fragments, Items, no_item, item}
use Rattle.dcm_base.specs.Tables.Representation.{is_long, pad, unit}
use Rattle.dcm_base.specs.Tree.Value.{order, turned, evened}
use Rattle.dcm_base.specs.Dump.ValueText.{shape, unpadded}
use Rattle.dcm_base.specs.Lines.ReadValue.{takes_bytes, value_shown}
use Rattle.dcm_base.specs.Conversion.Recode.{head, is_explicit, item_head, item_delimiter, sequence_delimiter, even, leaf_head, leaf_bytes, too_long, recoded_leaf, unless_dropped, recode_set, recode_items}
use Rattle.dcm_base.specs.Lines.Build.{rebuilt, rebuilt_items}

-- ---- values

order_one : (s : Syntax) (vr : Vr) (v : List ℕ) → unit vr ≡ 1 → order s vr v ≡ v
order_one (implicit_in d) vr v e = refl
order_one (little_in d) vr v e = refl
order_one (big_in d) vr v e = ap (λ k. turned k v) e ∙ turned_bytes v

text_unit : (vr : Vr) → takes_bytes (shape vr) ≡ true → unit vr ≡ 1
text_unit AE e = refl
text_unit AS e = refl
text_unit CS e = refl
text_unit DA e = refl
text_unit DS e = refl
text_unit DT e = refl
text_unit IS e = refl
text_unit LO e = refl
text_unit LT e = refl
text_unit PN e = refl
text_unit SH e = refl
text_unit ST e = refl
text_unit TM e = refl
text_unit UC e = refl
text_unit UI e = refl
text_unit UR e = refl
text_unit UT e = refl
text_unit _ e = cc

same_bytes : (t : Bool) (x y : List ℕ) → x ≡ y → (if t then x else y) ≡ y
same_bytes true x y e = e
same_bytes false x y e = refl

bytes_of_text : (s : Syntax) (vr : Vr) (size : ℕ) (v : List ℕ) → unit vr ≡ 1 → leaf_bytes s vr size v ≡ v
bytes_of_text s vr size v e = by_test (too_long s vr size)
  where
    by_test : (t : Bool) → (if t then v else order s vr v) ≡ v
    by_test true = refl
    by_test false = order_one s vr v e

-- a list without its last element, and that one
last_back : (b : ℕ) (v : List ℕ) (p : ℕ) → slice_index (b ∷ v) (length (b ∷ v) - 1) ≡ p → take (length (b ∷ v) - 1) (b ∷ v) ++ p ∷ [] ≡ b ∷ v
last_back b v p e = ap (λ n. take n (b ∷ v) ++ p ∷ []) (one_less (length v)) ∙ ends b v p (ap (slice_index (b ∷ v)) (sym (one_less (length v))) ∙ e)
  where
    one_less : (n : ℕ) → suc n - 1 ≡ n
    one_less n = omega arith

    ends : (b : ℕ) (v : List ℕ) (p : ℕ) → slice_index (b ∷ v) (length v) ≡ p → take (length v) (b ∷ v) ++ p ∷ [] ≡ b ∷ v
    ends b [] p e = ap (λ x. x ∷ []) (sym e)
    ends b (c ∷ v) p e = ap (λ x. b ∷ x) (ends c v p e)

is_even : (n : ℕ) → (n % 2 == 0) ≡ true → n % 2 ≡ 0
is_even n p = grind (arith, nat_tests, p)

heads_alike : (s : Syntax) (t : Tag) (vr : Vr) (m n : ℕ) → even m ≡ even n → leaf_head s t vr m ≡ leaf_head s t vr n
heads_alike s t vr m n e = ap (λ k. head s t (if is_explicit s && (not (is_long vr) && nat_lt 65534 k) then UN else vr) (Known k)) e

evened_odd : (p : ℕ) (v : List ℕ) → (length v % 2 == 0) ≡ false → evened p v ≡ v ++ p ∷ []
evened_odd p v e = rw e refl

evened_even : (p : ℕ) (v : List ℕ) → (length v % 2 == 0) ≡ true → evened p v ≡ v
evened_even p v e = rw e refl

-- the pad byte of an even text is put again
padded_same : (s : Syntax) (t : Tag) (vr : Vr) (b : ℕ) (v : List ℕ) → unit vr ≡ 1 → (length (b ∷ v) % 2 == 0) ≡ true → slice_index (b ∷ v) (length (b ∷ v) - 1) ≡ pad vr
    → recoded_leaf s t vr (take (length (b ∷ v) - 1) (b ∷ v)) ≡ recoded_leaf s t vr (b ∷ v)
padded_same s t vr b v one e last =
    let n : ℕ = length (b ∷ v) in
    let w : List ℕ = take (n - 1) (b ∷ v) in
    let l : length w ≡ n - 1 = length-take-le (n - 1) (b ∷ v) (omega arith) in
    let two : n % 2 ≡ 0 = is_even n e in
    let sizes : even (length w) ≡ even n = omega (arith, l, two) in
    ap (λ h. h ++ evened (pad vr) (leaf_bytes s vr (length w) w)) (heads_alike s t vr (length w) n sizes)
    ∙ ap (λ x. leaf_head s t vr n ++ x)
    (ap (evened (pad vr)) (bytes_of_text s vr (length w) w one)
    ∙ evened_odd (pad vr) w (is_odd (length w) n l two (omega arith))
    ∙ last_back b v (pad vr) last
    ∙ sym (ap (evened (pad vr)) (bytes_of_text s vr n (b ∷ v) one) ∙ evened_even (pad vr) (b ∷ v) e))
  where
    is_odd : (m n : ℕ) → m ≡ n - 1 → n % 2 ≡ 0 → 0 < n → (m % 2 == 0) ≡ false
    is_odd m n p q r = let o : m % 2 ≡ 1 = omega (arith, p, q, r) in ap (λ k. k == 0) o

text_same : (s : Syntax) (t : Tag) (vr : Vr) (v : List ℕ) → unit vr ≡ 1 → recoded_leaf s t vr (unpadded vr v) ≡ recoded_leaf s t vr v
text_same s t vr [] one = by_test (length {A = ℕ} [] % 2 == 0 && slice_index [] (length {A = ℕ} [] - 1) == pad vr)
  where
    by_test : (b : Bool) → recoded_leaf s t vr (if b then take (length {A = ℕ} [] - 1) [] else []) ≡ recoded_leaf s t vr []
    by_test true = refl
    by_test false = refl
text_same s t vr (b ∷ v) one = by_test (length (b ∷ v) % 2 == 0 && slice_index (b ∷ v) (length (b ∷ v) - 1) == pad vr) refl
  where
    by_test : (x : Bool) → (length (b ∷ v) % 2 == 0 && slice_index (b ∷ v) (length (b ∷ v) - 1) == pad vr) ≡ x → recoded_leaf s t vr (if x then take (length (b ∷ v) - 1) (b ∷ v) else b ∷ v) ≡ recoded_leaf s t vr (b ∷ v)
    by_test true e = padded_same s t vr b v one (and_first _ _ e) (equal_numbers (slice_index (b ∷ v) (length (b ∷ v) - 1)) (pad vr) (and_second (length (b ∷ v) % 2 == 0) _ e))
    by_test false e = refl

leaf_same : (s : Syntax) (t : Tag) (vr : Vr) (v : List ℕ) → recoded_leaf s t vr (value_shown vr v) ≡ recoded_leaf s t vr v
leaf_same s t vr v = by_shape (takes_bytes (shape vr)) refl
  where
    by_shape : (b : Bool) → takes_bytes (shape vr) ≡ b → recoded_leaf s t vr (if b then unpadded vr v else v) ≡ recoded_leaf s t vr v
    by_shape true e = text_same s t vr v (text_unit vr e)
    by_shape false e = refl

-- ---- data sets

unless_alike : (t : Tag) {a b : List ℕ} → a ≡ b → unless_dropped t a ≡ unless_dropped t b
unless_alike t p = ap (unless_dropped t) p

mutual
  unfolding rebuilt recode_set

  pub recodes_same : (s : Syntax) (set : Trees) → recode_set s (rebuilt set) ≡ recode_set s set
  recodes_same s no_tree = refl
  recodes_same s (leaf t vr v rest) = joined_alike (unless_alike t (leaf_same s t vr v)) (recodes_same s rest)
  recodes_same s (sequence t vr declared items rest) =
      joined_alike (ap (λ x. unless_dropped t (head s t SQ Undefined ++ x ++ sequence_delimiter s)) (items_same s items)) (recodes_same s rest)
  recodes_same s (fragments t vr values rest) = joined_alike refl (recodes_same s rest)

  pub items_same : (s : Syntax) (items : Items) → recode_items s (rebuilt_items items) ≡ recode_items s items
  items_same s no_item = refl
  items_same s (item declared set rest) =
      joined_alike (ap (λ x. item_head s Undefined ++ x ++ item_delimiter s) (recodes_same s set)) (items_same s rest)
