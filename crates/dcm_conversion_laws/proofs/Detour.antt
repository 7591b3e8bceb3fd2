-- The normal form of a data set in one syntax is converted to another one as the data set itself.
use Rattle.std.proofs.Common.{◌≡◌, ◌≢◌, ◌≤◌, ◌<◌, ℕ, zero, suc, ◌+◌, ◌%◌, List, [], ◌∷◌, ◌++◌, length, take, drop, reverse, map, flat_map, Bool, true, false, not, refl, ap, sym, subst, ◌∙◌, arith, length-append, append_assoc, inl, inr}
use Rattle.std.specs.Prelude.{◌==◌, ◌&&◌, if◌then◌else◌, nat_lt}
use Rattle.std.proofs.lemmas.Bool.Decides.{nat_tests}
use Rattle.std.proofs.lemmas.Bool.{cases_lt, eqb-true, eqb-false}
use Rattle.std.proofs.lemmas.List.{length-take, length-drop, take-append-drop}
use Rattle.std.proofs.Math.Nat.{mod_self, add-mod_left}
use mathlib.Core.Logic.{⊎_elim}
use Rattle.dcm_lemmas.proofs.Lists.{joined_alike}
use Rattle.dcm_base.specs.declared.tag.Tag.{Tag}
use Rattle.dcm_base.specs.declared.vr.Vr.{Vr}
use Rattle.dcm_base.specs.declared.vr.Vr.TheVariants.{SQ, UN}
use Rattle.dcm_base.specs.declared.syntax.Syntax.{Syntax}
use Rattle.dcm_base.specs.declared.dictionary.Dictionary.{Dictionary}
use Rattle.dcm_base.specs.declared.syntax.Syntax.TheVariants.{Implicit as implicit_in, Little as little_in, Big as big_in}
use Rattle.dcm_base.specs.declared.length.Length.TheVariants.{Known, Undefined}
use Rattle.dcm_base.specs.Tree.Tree.{Trees, no_tree, leaf, sequence, fragments, Items, no_item, item}
use Rattle.dcm_base.specs.Tables.Representation.{is_long, pad, unit}
use Rattle.dcm_base.specs.Tree.Value.{order, evened, turned}
use Rattle.dcm_base.specs.Bytes.Spelling.{after}
use Rattle.dcm_base.specs.Conversion.Recode.{head, even, item_head, item_delimiter, sequence_delimiter, plain_head, too_long, leaf_head, leaf_bytes, recoded_leaf, recoded_fragment, unless_dropped, recode_set, recode_items}
use Rattle.dcm_base.specs.Conversion.Normal.{normal_vr, normal_sequence_vr, normal_value, normal, normal_items}
use Rattle.dcm_base.proofs.Conversions.Order.{order_twice, turned_cons, turned_short, unit_some}
use Rattle.dcm_base.proofs.Conversions.OrderLaws.{keeps_length, turned_bytes}
use Rattle.dcm_base.proofs.Conversions.NormalForm.{evened_same, even_even, leaf_size, normal_size, fragments_again}
use Rattle.dcm_conversion_laws.specs.Detour.{KeepsVr, KeepsPad, pad_completes, KeepsForms, ItemsKeep}

-- ---- a byte after units

module _ (k : ℕ) (some : 0 < k) (p : ℕ) where
  one_more_short : (v : List ℕ) → length v < k → (length v + 1) % k ≢ 0 → turned k (v ++ p ∷ []) ≡ turned k v ++ p ∷ []
  one_more_short v l apart =
      ⊎_elim
      (λ less. turned_short k some (v ++ p ∷ []) (omega (arith, less, length-append v (p ∷ []))) ∙ ap (λ (x : List ℕ). x ++ p ∷ []) (sym (turned_short k some v l)))
      (λ full. absurd (apart (ap (λ (n : ℕ). n % k) (let e : length v + 1 ≡ k = omega (arith, full, l) in e) ∙ mod_self k)))
      (cases_lt (length v + 1) k)

  one_more_within : (n : ℕ) (v : List ℕ) → length v ≤ n → (length v + 1) % k ≢ 0 → turned k (v ++ p ∷ []) ≡ turned k v ++ p ∷ []
  one_more_within zero v l apart = one_more_short v (omega arith) apart
  one_more_within (suc n) v l apart =
      ⊎_elim
      (λ short. one_more_short v short apart)
      (λ long.
      let u : List ℕ = take k v in
      let w : List ℕ = drop k v in
      let whole : u ++ w ≡ v = take-append-drop k v in
      let is_unit : length u ≡ k = omega (arith, length-take k v) in
      let fewer : length v + 1 ≡ k + (length w + 1) = omega (arith, length-drop k v) in
      ap (λ (x : List ℕ). turned k (x ++ p ∷ [])) (sym whole)
      ∙ ap (turned k) (append_assoc u w (p ∷ []))
      ∙ turned_cons k some u (w ++ p ∷ []) is_unit
      ∙ ap (λ (x : List ℕ). reverse u ++ x) (one_more_within n w (omega (arith, length-drop k v)) (λ z. apart (ap (λ (m : ℕ). m % k) fewer ∙ add-mod_left k (length w + 1) ∙ z)))
      ∙ sym (append_assoc (reverse u) (turned k w) (p ∷ []))
      ∙ ap (λ (x : List ℕ). x ++ p ∷ []) (sym (turned_cons k some u w is_unit))
      ∙ ap (λ (x : List ℕ). turned k x ++ p ∷ []) whole)
      (cases_lt (length v) k)

  one_more : (v : List ℕ) → (length v + 1) % k ≢ 0 → turned k (v ++ p ∷ []) ≡ turned k v ++ p ∷ []
  one_more v apart = one_more_within (length v) v (omega arith) apart

  single_bytes : (v : List ℕ) → k ≡ 1 → turned k (v ++ p ∷ []) ≡ turned k v ++ p ∷ []
  single_bytes v is = subst (λ (j : ℕ). turned j (v ++ p ∷ []) ≡ turned j v ++ p ∷ []) (sym is) (turned_bytes (v ++ p ∷ []) ∙ ap (λ (x : List ℕ). x ++ p ∷ []) (sym (turned_bytes v)))

  pad_by : (v : List ℕ) (one c full : Bool) → (k == 1) ≡ one → (length v % 2 == 0) ≡ c → (even (length v) % k == 0) ≡ full → (not one && (not c && full)) ≡ false
      → turned k (if c then v else v ++ p ∷ []) ≡ (if c then turned k v else turned k v ++ p ∷ [])
  pad_by v one true full o e f h = refl
  pad_by v true false full o e f h = single_bytes v (eqb-true k 1 o)
  pad_by v false false full o e f h =
      let odd : length v % 2 ≡ 1 = grind (arith, nat_tests, e) in
      let one : even (length v) ≡ length v + 1 = omega (arith, odd) in
      one_more v (λ z. eqb-false (even (length v) % k) 0 (f ∙ h) (ap (λ (n : ℕ). n % k) one ∙ z))

-- a pad byte that makes no unit whole
pad_turned : (vr : Vr) (p : ℕ) (v : List ℕ) → pad_completes vr (length v) ≡ false → turned (unit vr) (evened p v) ≡ evened p (turned (unit vr) v)
pad_turned vr p v h =
    pad_by (unit vr) (unit_some vr) p v (unit vr == 1) (length v % 2 == 0) (even (length v) % unit vr == 0) refl refl refl h
    ∙ ap (λ (n : ℕ). if n % 2 == 0 then turned (unit vr) v else turned (unit vr) v ++ p ∷ []) (sym (keeps_length (unit vr) (unit_some vr) v))

unknown_or : (vr : Vr) (n : ℕ) (c : Bool) → pad_completes vr n ≡ false → pad_completes (if c then UN else vr) n ≡ false
unknown_or vr n true h = refl
unknown_or vr n false h = h

-- ---- leaves

bytes_ordered : (s : Syntax) (t : Tag) (vr : Vr) (n : ℕ) (v : List ℕ) → leaf_bytes s vr n v ≡ order s (normal_vr s t vr n) v
bytes_ordered (implicit_in d) t vr n v = refl
bytes_ordered (little_in d) t vr n v = either (too_long (little_in d) vr n)
  where
    either : (c : Bool) → (if c then v else v) ≡ v
    either true = refl
    either false = refl
bytes_ordered (big_in d) t vr n v = by_test (too_long (big_in d) vr n)
  where
    by_test : (c : Bool) → (if c then v else turned (unit vr) v) ≡ turned (unit (if c then UN else vr)) v
    by_test true = sym (turned_bytes v)
    by_test false = refl

vr_even : (s : Syntax) (t : Tag) (vr : Vr) (n : ℕ) → normal_vr s t vr (even n) ≡ normal_vr s t vr n
vr_even (implicit_in d) t vr n = refl
vr_even (little_in d) t vr n = ap (λ (k : ℕ). if (not (is_long vr) && nat_lt 65534 k) then UN else vr) (even_even n)
vr_even (big_in d) t vr n = ap (λ (k : ℕ). if (not (is_long vr) && nat_lt 65534 k) then UN else vr) (even_even n)

head_same : (s : Syntax) (t : Tag) (w vr : Vr) (n : ℕ) → normal_vr s t w (even n) ≡ normal_vr s t vr n → leaf_head s t w (even n) ≡ leaf_head s t vr n
head_same (implicit_in d) t w vr n e = ap (λ (k : ℕ). plain_head (implicit_in d) t (Known k)) (even_even n)
head_same (little_in d) t w vr n e =
    ap (λ (x : Vr). head (little_in d) t x (Known (even (even n)))) e ∙ ap (λ (k : ℕ). head (little_in d) t (normal_vr (little_in d) t vr n) (Known k)) (even_even n)
head_same (big_in d) t w vr n e =
    ap (λ (x : Vr). head (big_in d) t x (Known (even (even n)))) e ∙ ap (λ (k : ℕ). head (big_in d) t (normal_vr (big_in d) t vr n) (Known k)) (even_even n)

back_home : (d : Dictionary) (t : Tag) (vr : Vr) (p : ℕ) (v : List ℕ) → pad_completes vr (length v) ≡ false
    → order (big_in d) (normal_vr (big_in d) t vr (length v)) (evened p (order (big_in d) (normal_vr (big_in d) t vr (length v)) v)) ≡ evened p v
back_home d t vr p v apart =
    let w : Vr = normal_vr (big_in d) t vr (length v) in
    ap (order (big_in d) w) (sym (pad_turned w p v (unknown_or vr (length v) (too_long (big_in d) vr (length v)) apart))) ∙ order_twice (big_in d) w (evened p v)

-- the value is turned back, and its pad byte is where it would be
turned_back : (way target : Syntax) (t : Tag) (vr : Vr) (p : ℕ) (v : List ℕ) → KeepsPad way target vr (length v)
    → order target (normal_vr target t vr (length v)) (order way (normal_vr way t vr (length v)) (evened p (order way (normal_vr way t vr (length v)) v))) ≡ evened p (order target (normal_vr target t vr (length v)) v)
turned_back (implicit_in d) (implicit_in e) t vr p v h = refl
turned_back (implicit_in d) (little_in e) t vr p v h = refl
turned_back (little_in d) (implicit_in e) t vr p v h = refl
turned_back (little_in d) (little_in e) t vr p v h = refl
turned_back (big_in d) (big_in e) t vr p v h = order_twice (big_in d) (normal_vr (big_in d) t vr (length v)) (evened p (order (big_in d) (normal_vr (big_in d) t vr (length v)) v))
turned_back (implicit_in d) (big_in e) t vr p v (inl same) = absurd (cc)
turned_back (implicit_in d) (big_in e) t vr p v (inr apart) = pad_turned (normal_vr (big_in e) t vr (length v)) p v (unknown_or vr (length v) (too_long (big_in e) vr (length v)) apart)
turned_back (little_in d) (big_in e) t vr p v (inl same) = absurd (cc)
turned_back (little_in d) (big_in e) t vr p v (inr apart) = pad_turned (normal_vr (big_in e) t vr (length v)) p v (unknown_or vr (length v) (too_long (big_in e) vr (length v)) apart)
turned_back (big_in d) (implicit_in e) t vr p v (inl same) = absurd (cc)
turned_back (big_in d) (implicit_in e) t vr p v (inr apart) = back_home d t vr p v apart
turned_back (big_in d) (little_in e) t vr p v (inl same) = absurd (cc)
turned_back (big_in d) (little_in e) t vr p v (inr apart) = back_home d t vr p v apart

leaf_composes : (way target : Syntax) (t : Tag) (vr : Vr) (v : List ℕ) → KeepsVr way target t vr (length v) → KeepsPad way target vr (length v)
    → recoded_leaf target t (normal_vr way t vr (length v)) (normal_value way t vr v) ≡ recoded_leaf target t vr v
leaf_composes way target t vr v keeps pads =
    let n : ℕ = length v in
    let w : Vr = normal_vr way t vr n in
    let x : List ℕ = normal_value way t vr v in
    let size : length x ≡ even n = normal_size way t vr v in
    let same : normal_vr target t w (even n) ≡ normal_vr target t vr n = vr_even target t w n ∙ keeps in
    joined_alike (ap (leaf_head target t w) size ∙ head_same target t w vr n same)
    (evened_same (pad w) (leaf_bytes target w (length x) x) n (leaf_size target w (length x) x ∙ size)
    ∙ bytes_ordered target t w (length x) x
    ∙ ap (λ (k : ℕ). order target (normal_vr target t w k) x) size
    ∙ ap (λ (y : Vr). order target y x) same
    ∙ ap (λ (y : List ℕ). order target (normal_vr target t vr n) (order way w (evened (pad vr) y))) (bytes_ordered way t vr n v)
    ∙ turned_back way target t vr (pad vr) v pads
    ∙ ap (evened (pad vr)) (sym (bytes_ordered target t vr n v)))

-- ---- fragments

-- ---- data sets

-- a tree is dropped or stays, as its bytes do
kept_bytes : (s : Syntax) (t : Tag) (tree : Trees → Trees) (x y : List ℕ) (more : Trees) (others : List ℕ) (c : Bool) → (t.element == 0) ≡ c
    → recode_set s (tree more) ≡ unless_dropped t x ++ recode_set s more → ((t.element == 0) ≡ false → x ≡ y) → recode_set s more ≡ others
    → recode_set s (if c then more else tree more) ≡ (if c then [] else y) ++ others
kept_bytes s t tree x y more others true e is same rest = rest
kept_bytes s t tree x y more others false e is same rest = is ∙ ap (λ (c : Bool). (if c then [] else x) ++ recode_set s more) e ∙ joined_alike (same e) rest

mutual
  unfolding normal recode_set KeepsForms

  pub sets_compose : (way target : Syntax) (set : Trees) → KeepsForms way target set → recode_set target (normal way set) ≡ recode_set target set
  sets_compose way target no_tree h = refl
  sets_compose way target (leaf t vr v rest) h =
      let w : Vr = normal_vr way t vr (length v) in
      let x : List ℕ = normal_value way t vr v in
      kept_bytes target t (leaf t w x) (recoded_leaf target t w x) (recoded_leaf target t vr v) (normal (after way t w x) rest) (recode_set target rest) (t.element == 0) refl
      refl (λ e. leaf_composes way target t vr v (h.0 e).0 (h.0 e).1) (sets_compose (after way t w x) target rest h.1)
  sets_compose way target (sequence t vr declared items rest) h =
      kept_bytes target t (sequence t (normal_sequence_vr way t) Undefined (normal_items way items)) (head target t SQ Undefined ++ recode_items target (normal_items way items) ++ sequence_delimiter target) (head target t SQ Undefined ++ recode_items target items ++ sequence_delimiter target)
      (normal way rest) (recode_set target rest) (t.element == 0) refl
      refl (λ e. ap (λ (x : List ℕ). head target t SQ Undefined ++ x ++ sequence_delimiter target) (items_compose way target items (h.0 e))) (sets_compose way target rest h.1)
  sets_compose way target (fragments t vr values rest) h =
      kept_bytes target t (fragments t vr (map (evened 0) values)) (head target t vr Undefined ++ flat_map (recoded_fragment target) (map (evened 0) values) ++ sequence_delimiter target) (head target t vr Undefined ++ flat_map (recoded_fragment target) values ++ sequence_delimiter target)
      (normal way rest) (recode_set target rest) (t.element == 0) refl
      refl (λ e. ap (λ (x : List ℕ). head target t vr Undefined ++ x ++ sequence_delimiter target) (fragments_again target values)) (sets_compose way target rest h)

  pub items_compose : (way target : Syntax) (items : Items) → ItemsKeep way target items → recode_items target (normal_items way items) ≡ recode_items target items
  items_compose way target no_item h = refl
  items_compose way target (item declared set rest) h = joined_alike (ap (λ (x : List ℕ). item_head target Undefined ++ x ++ item_delimiter target) (sets_compose way target set h.0)) (items_compose way target rest h.1)
