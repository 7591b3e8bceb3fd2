-- Dates that are moved, and moved back, are as long as they were, and stand where they did.
use Rattle.std.proofs.Common.{◌≡◌, ◌≢◌, ◌∙◌, ap, sym, refl, subst, ℕ, ◌≤◌, List, [], ◌∷◌, ◌++◌, length, length-append, append-nil, map, take, Bool, true, false, ◌==◌, not, arith, Option, Some, None, if◌then◌else◌}
use Rattle.std.specs.Prelude.{nat_lt}
use Rattle.dcm_base.specs.declared.length.Length.{Length}
use Rattle.dcm_base.specs.declared.length.Length.TheVariants.{Known, Undefined}
use Rattle.dcm_base.specs.declared.syntax.Syntax.{Syntax}
use Rattle.dcm_base.specs.declared.syntax.Syntax.TheVariants.{Implicit as implicit_in, Little as little_in, Big as big_in}
use Rattle.dcm_base.specs.declared.tag.Tag.{Tag}
use Rattle.dcm_base.specs.declared.vr.Vr.{Vr}
use Rattle.dcm_base.specs.declared.vr.Vr.TheVariants.{SQ, UN}
use Rattle.dcm_base.specs.Bytes.Head.{vr_at}
use Rattle.dcm_base.specs.Bytes.Spelling.{after}
use Rattle.dcm_base.specs.Conversion.Normal.{normal, normal_items, normal_sequence_vr, normal_value, normal_vr}
use Rattle.dcm_base.specs.Conversion.Recode.{even, head, item_delimiter, item_head, leaf_bytes, leaf_head, recode_items, recode_set, recoded_leaf, sequence_delimiter, too_long, unless_dropped}
use Rattle.dcm_base.specs.declared.fault.Fault.TheVariants.{BadMeta, MetaTooLarge}
use Rattle.dcm_base.specs.File.MetaGroup.{GroupPlace, a_fault, an_element, group_place, group_place_of_head, group_place_of_vr, the_end, too_few}
use Rattle.dcm_base.specs.Tables.Number.{number}
use Rattle.dcm_base.specs.Tables.Syntax.{Little}
use Rattle.dcm_base.specs.Tables.Representation.{pad}
use Rattle.dcm_base.specs.Tables.Transfer.{without_pads}
use Rattle.dcm_base.specs.Tree.Tree.{Trees, no_tree, leaf, sequence, fragments, Items, no_item, item}
use Rattle.dcm_base.specs.Tree.Value.{evened}
use Rattle.dcm_base.proofs.Conversions.NormalForm.{evened_size, leaf_again, leaf_size}
use Rattle.dcm_deid.specs.declared.fate.Fate.{Fate}
use Rattle.dcm_deid.specs.declared.fate.Fate.TheVariants.{Remove, Empty, Replace, Anew, Keep}
use Rattle.dcm_deid.specs.declared.fate.NewValue.{NewValue}
use Rattle.dcm_deid.specs.declared.fate.Options.{Options}
use Rattle.dcm_deid.specs.declared.fate.Depth.{Depth}
use Rattle.dcm_deid.specs.declared.fate.Depth.TheVariants.{Inside}
use Rattle.dcm_deid.specs.declared.fate.ReadAs.TheVariants.{AsBytes, AsItems}
use Rattle.dcm_deid.specs.Fate.{fate_as}
use Rattle.dcm_deid.specs.Deidentify.{Renaming, dummy, value_by, deidentified_set, items_by_fate}
use Rattle.dcm_deid.specs.Remains.{IsClean, IsKept, ItemsAreClean, SequenceIsClean, ValueIsClean}
use Rattle.dcm_deid.proofs.Trees.Instances.{without_pad}
use Rattle.dcm_deid_laws.proofs.Clean.{no_sign, short_vr}
use Rattle.dcm_deid_laws.proofs.Named.{AreNamed, IsNamed, ItemsAreNamed, named_after, same_after}
use Rattle.dcm_deid_laws.proofs.Ready.{dummy_short}
use Rattle.dcm_deid_laws.proofs.Back.Left.{MadeAgain, empty_again, items_if, leaf_left, list_left, padded_again, same_leaf, sequence_left}
use Rattle.dcm_deid_laws.proofs.Twice.Alike.{ArePaired, Joins, both_end, two_leaves, two_sequences, two_lists, recodes_paired}
use Rattle.dcm_deid_laws.proofs.Twice.Left.{IsBy, by_after, leaf_alone, list_alone, recoded_as, stays_written}

-- ---- bytes that are as long, and begin alike

pub record IsFramed (x y : List ℕ) : Type 0 where
  pub size : length x ≡ length y
  pub front : take 2 x ≡ take 2 y

same_framed : (x y : List ℕ) → x ≡ y → IsFramed x y
same_framed x y e = record { size = ap length e; front = ap (take 2) e }

pub framed_self : (x : List ℕ) → IsFramed x x
framed_self x = same_framed x x refl

take_less : (x y : List ℕ) → take 2 x ≡ take 2 y → take 1 x ≡ take 1 y
take_less [] [] e = refl
take_less [] (b ∷ []) e = absurd (cc)
take_less [] (b ∷ c ∷ y) e = absurd (cc)
take_less (a ∷ []) [] e = absurd (cc)
take_less (a ∷ d ∷ x) [] e = absurd (cc)
take_less (a ∷ []) (b ∷ []) e = e
take_less (a ∷ []) (b ∷ c ∷ y) e = absurd (cc)
take_less (a ∷ d ∷ x) (b ∷ []) e = absurd (cc)
take_less (a ∷ d ∷ x) (b ∷ c ∷ y) e = let same : a ≡ b = cc in ap (λ (k : ℕ). k ∷ []) same

both_first : (a b : ℕ) (x y : List ℕ) → a ∷ [] ≡ b ∷ [] → x ≡ y → a ∷ x ≡ b ∷ y
both_first a b x y e f = let same : a ≡ b = cc in cc

fronts_join : (x y r q : List ℕ) → length x ≡ length y → take 2 x ≡ take 2 y → take 2 r ≡ take 2 q → take 2 (x ++ r) ≡ take 2 (y ++ q)
fronts_join [] [] r q l e f = f
fronts_join [] (b ∷ y) r q l e f = absurd (omega (arith, l))
fronts_join (a ∷ x) [] r q l e f = absurd (omega (arith, l))
fronts_join (a ∷ []) (b ∷ []) r q l e f = both_first a b (take 1 r) (take 1 q) e (take_less r q f)
fronts_join (a ∷ []) (b ∷ c ∷ y) r q l e f = absurd (omega (arith, l))
fronts_join (a ∷ d ∷ x) (b ∷ []) r q l e f = absurd (omega (arith, l))
fronts_join (a ∷ d ∷ x) (b ∷ c ∷ y) r q l e f = e

joined_framed : (x y r q : List ℕ) → IsFramed x y → IsFramed r q → IsFramed (x ++ r) (y ++ q)
joined_framed x y r q h k =
    let one = h.size in
    let two = k.size in
    record { size = omega (arith, one, two, length-append x r, length-append y q); front = fronts_join x y r q h.size h.front k.front }

without_more : (x y : List ℕ) → IsFramed (x ++ []) (y ++ []) → IsFramed x y
without_more x y h = subst (λ (z : List ℕ). IsFramed z y) (append-nil x) (subst (λ (z : List ℕ). IsFramed (x ++ []) z) (append-nil y) h)

pub framed_joins : Joins IsFramed
framed_joins = record { none = framed_self []; more = λ x y r q h k. joined_framed x y r q (without_more x y h) k }

-- ---- elements

-- behind a head its two first bytes are not seen
head_first : (s : Syntax) (t : Tag) (vr : Vr) (l : Length) (x y : List ℕ) → take 2 (head s t vr l ++ x) ≡ take 2 (head s t vr l ++ y)
head_first (implicit_in d) t vr l x y = refl
head_first (little_in d) t vr l x y = refl
head_first (big_in d) t vr l x y = refl

behind_head : (s : Syntax) (t : Tag) (vr : Vr) (l : Length) (x y : List ℕ) → length x ≡ length y → IsFramed (head s t vr l ++ x) (head s t vr l ++ y)
behind_head s t vr l x y e =
    let one = length-append (head s t vr l) x in
    let two = length-append (head s t vr l) y in
    record { size = omega (arith, e, one, two); front = head_first s t vr l x y }

unless_framed : (c : Bool) (x y : List ℕ) → IsFramed x y → IsFramed ((if c then [] else x) ++ []) ((if c then [] else y) ++ [])
unless_framed true x y h = framed_self []
unless_framed false x y h = joined_framed x y [] [] h (framed_self [])

leaf_framed : (s : Syntax) (t : Tag) (vr w : Vr) (x v : List ℕ) → w ≡ vr → length x ≡ length v → IsFramed (recode_set s (leaf t w x no_tree)) (recode_set s (leaf t vr v no_tree))
unfolding recode_set
leaf_framed s t vr w x v e l =
    let u : Vr = if too_long s vr (length v) then UN else vr in
    let h : List ℕ = head s t u (Known (even (length v))) in
    let bytes : ℕ → List ℕ → List ℕ = λ n y. evened (pad vr) (leaf_bytes s vr n y) in
    let other : recoded_leaf s t w x ≡ h ++ bytes (length v) x = ap (λ (z : Vr). recoded_leaf s t z x) e ∙ ap (λ (n : ℕ). leaf_head s t vr n ++ evened (pad vr) (leaf_bytes s vr n x)) l in
    let size : length (bytes (length v) x) ≡ length (bytes (length v) v) =
    evened_size (pad vr) (leaf_bytes s vr (length v) x) ∙ ap even (leaf_size s vr (length v) x ∙ l ∙ sym (leaf_size s vr (length v) v)) ∙ sym (evened_size (pad vr) (leaf_bytes s vr (length v) v))
    in
    subst (λ (z : List ℕ). IsFramed (unless_dropped t z ++ []) (recode_set s (leaf t vr v no_tree))) (sym other)
    (unless_framed (t.element == 0) (h ++ bytes (length v) x) (h ++ bytes (length v) v) (behind_head s t u (Known (even (length v))) (bytes (length v) x) (bytes (length v) v) size))

sequence_first : (s : Syntax) (t : Tag) (l : Length) (x y z : List ℕ) → take 2 (head s t SQ l ++ x ++ z) ≡ take 2 (head s t SQ l ++ y ++ z)
sequence_first (implicit_in d) t l x y z = refl
sequence_first (little_in d) t l x y z = refl
sequence_first (big_in d) t l x y z = refl

sequence_framed : (s : Syntax) (t : Tag) (vr wr : Vr) (m n : Length) (i j : Items) → length (recode_items s i) ≡ length (recode_items s j) → IsFramed (recode_set s (sequence t vr m i no_tree)) (recode_set s (sequence t wr n j no_tree))
unfolding recode_set
sequence_framed s t vr wr m n i j e =
    let h : List ℕ = head s t SQ Undefined in
    let d : List ℕ = sequence_delimiter s in
    let x : List ℕ = recode_items s i in
    let y : List ℕ = recode_items s j in
    unless_framed (t.element == 0) (h ++ x ++ d) (h ++ y ++ d)
    (record { size = omega (arith, e, length-append (h ++ x) d, length-append (h ++ y) d, length-append h x, length-append h y); front = sequence_first s t Undefined x y d })

items_framed : (s : Syntax) (m n : Length) (a b : Trees) (i j : Items) → length (recode_set s a) ≡ length (recode_set s b) → length (recode_items s i) ≡ length (recode_items s j) → length (recode_items s (item m a i)) ≡ length (recode_items s (item n b j))
unfolding recode_set
items_framed s m n a b i j e f =
    let h : List ℕ = item_head s Undefined in
    let d : List ℕ = item_delimiter s in
    let x : List ℕ = recode_set s a in
    let y : List ℕ = recode_set s b in
    omega (arith, e, f, length-append (h ++ x ++ d) (recode_items s i), length-append (h ++ y ++ d) (recode_items s j), length-append (h ++ x) d, length-append (h ++ y) d, length-append h x, length-append h y)

-- ---- data sets

-- what others make is as long
abbrev pub IsAsLong : Options → (new back : Renaming) → Type 0
IsAsLong options new back = (depth : Depth) (t : Tag) (made : NewValue) (b : List ℕ) → fate_as options depth AsBytes t ≡ Anew made → length (back made (without_pads (new made b))) ≡ length (new made b)

module _ (options : Options) (new back : Renaming) (can : MadeAgain options new back) (long : IsAsLong options new back) (s : Syntax) where
  abbrev away : Depth → Trees → Trees
  away depth x = deidentified_set options back depth x

  abbrev items_away : Items → Items
  items_away x = items_by_fate (fate_as options) (value_by back) x

  abbrev AreFramed : Trees → Trees → Type 0
  AreFramed a b = ArePaired IsFramed s a b

  abbrev MoreFramed : Depth → Trees → Type 0
  MoreFramed depth rest = (k : Syntax) → IsBy k s → AreNamed k rest → AreFramed (away depth (normal k rest)) rest

  module _ (k : Syntax) (t : Tag) (fate : Fate) (vr : Vr) (v : List ℕ) where
    abbrev one_vr : Vr
    one_vr = normal_vr k t vr (length v)

    abbrev one : List ℕ
    one = normal_value k t vr v

    abbrev other : List ℕ
    other = value_by back fate one_vr one

    leaf_away : (depth : Depth) (rest : Trees) → fate_as options depth AsBytes t ≡ fate → fate ≢ Remove → IsFramed (recode_set s (leaf t one_vr other no_tree)) (recode_set s (leaf t vr v no_tree)) → AreFramed (away depth (normal (after k t one_vr one) rest)) rest
        → AreFramed (away depth (normal k (leaf t vr v rest))) (leaf t vr v rest)
    leaf_away depth rest e stays is h =
        subst (λ (z : Trees). AreFramed z (leaf t vr v rest)) (sym (leaf_left options back k depth fate t vr v rest e stays))
        (two_leaves s t one_vr vr other v (away depth (normal (after k t one_vr one) rest)) rest is h)

    -- one that says no sign
    plain_away : (depth : Depth) (rest : Trees) → fate_as options depth AsBytes t ≡ fate → fate ≢ Remove → fate ≢ Keep → IsBy k s → AreNamed (after k t vr v) rest → MoreFramed depth rest
        → IsFramed (recode_set s (leaf t one_vr other no_tree)) (recode_set s (leaf t vr v no_tree)) → AreFramed (away depth (normal k (leaf t vr v rest))) (leaf t vr v rest)
    plain_away depth rest e stays changes by named more is =
        let none = no_sign options depth t fate e changes in
        let here : AreNamed k rest = subst (λ (j : Syntax). AreNamed j rest) (same_after k t vr v none) named in
        leaf_away depth rest e stays is (more (after k t one_vr one) (by_after k s t one_vr one by) (subst (λ (j : Syntax). AreNamed j rest) (sym (same_after k t one_vr one none)) here))

    -- one that is written alike
    same_written : IsBy k s → recoded_leaf k t one_vr other ≡ recoded_leaf k t vr v → IsFramed (recode_set s (leaf t one_vr other no_tree)) (recode_set s (leaf t vr v no_tree))
    same_written by same = same_framed _ _ (leaf_alone s t one_vr vr other v (recoded_as k s t one_vr vr other v by same))

  anew_away : (k : Syntax) (depth : Depth) (made : NewValue) (t : Tag) (vr : Vr) (v old : List ℕ) → fate_as options depth AsBytes t ≡ Anew made → IsNamed k t vr → v ≡ evened (pad vr) (new made old)
      → IsFramed (recode_set s (leaf t (one_vr k t (Anew made) vr v) (other k t (Anew made) vr v) no_tree)) (recode_set s (leaf t vr v no_tree))
  anew_away k depth made t vr v old e is clean =
      let w : Vr = normal_vr k t vr (length v) in
      let first : w ≡ vr = short_vr k t vr (length v) (subst (λ (y : List ℕ). length y ≤ 256) (sym clean) (can.short made vr old)) is in
      let read : normal_value k t vr v ≡ v = ap (normal_value k t vr) clean ∙ padded_again k t vr (new made old) (can.short made vr old) is ∙ sym clean in
      let was : without_pads (normal_value k t vr v) ≡ without_pads (new made old) = ap without_pads (read ∙ clean) ∙ without_pad vr (new made old) in
      let size : length (other k t (Anew made) vr v) ≡ length v =
      evened_size (pad w) (back made (without_pads (normal_value k t vr v)))
      ∙ ap (λ (b : List ℕ). even (length (back made b))) was
      ∙ ap even (long depth t made old e)
      ∙ sym (evened_size (pad vr) (new made old))
      ∙ sym (ap length clean)
      in
      leaf_framed s t vr w (other k t (Anew made) vr v) v first size

  leaf_goes_away : (k : Syntax) (depth : Depth) (fate : Fate) (t : Tag) (vr : Vr) (v : List ℕ) (rest : Trees) → fate_as options depth AsBytes t ≡ fate → IsBy k s → IsNamed k t vr → AreNamed (after k t vr v) rest → ValueIsClean new fate vr v
      → MoreFramed depth rest → AreFramed (away depth (normal k (leaf t vr v rest))) (leaf t vr v rest)
  leaf_goes_away k depth Remove t vr v rest e by is named clean more = absurd clean
  leaf_goes_away k depth Empty t vr v rest e by is named clean more =
      plain_away k t Empty vr v depth rest e (λ q. cc) (λ q. cc) by named more
      (same_written k t Empty vr v by (ap (λ (y : List ℕ). recoded_leaf k t (normal_vr k t vr (length y)) []) clean ∙ empty_again k t vr ∙ ap (recoded_leaf k t vr) (sym clean)))
  leaf_goes_away k depth Replace t vr v rest e by is named clean more =
      let w : Vr = normal_vr k t vr (length v) in
      let first : w ≡ vr = short_vr k t vr (length v) (subst (λ (y : List ℕ). length y ≤ 256) (sym clean) (dummy_short vr)) is in
      plain_away k t Replace vr v depth rest e (λ q. cc) (λ q. cc) by named more
      (same_written k t Replace vr v by (same_leaf k t vr w v (dummy w) first (ap dummy first ∙ sym clean)))
  leaf_goes_away k depth (Anew made) t vr v rest e by is named clean more =
      plain_away k t (Anew made) vr v depth rest e (λ q. cc) (λ q. cc) by named more (anew_away k depth made t vr v clean.0 e is clean.1)
  leaf_goes_away k depth Keep t vr v rest e by is named clean more =
      leaf_away k t Keep vr v depth rest e (λ q. cc) (same_written k t Keep vr v by (leaf_again k t vr v))
      (more (after k t (normal_vr k t vr (length v)) (normal_value k t vr v)) (by_after k s t _ _ by) (named_after k t vr v rest is named))

  sequence_away : (k : Syntax) (depth : Depth) (fate : Fate) (t : Tag) (vr : Vr) (declared : Length) (items : Items) (rest : Trees) → fate_as options depth AsItems t ≡ fate → fate ≢ Remove
      → length (recode_items s (items_if fate (items_away (normal_items k items)))) ≡ length (recode_items s items)
      → AreFramed (away depth (normal k rest)) rest → AreFramed (away depth (normal k (sequence t vr declared items rest))) (sequence t vr declared items rest)
  sequence_away k depth fate t vr declared items rest e stays size h =
      let w : Vr = normal_sequence_vr k t in
      let left : Items = items_if fate (items_away (normal_items k items)) in
      subst (λ (z : Trees). AreFramed z (sequence t vr declared items rest)) (sym (sequence_left options back k depth fate t vr declared items rest e stays))
      (two_sequences s t w vr Undefined declared left items (away depth (normal k rest)) rest (sequence_framed s t w vr Undefined declared left items size) h)

  sequence_goes_away : (k : Syntax) (depth : Depth) (fate : Fate) (t : Tag) (vr : Vr) (declared : Length) (items : Items) (rest : Trees) → fate_as options depth AsItems t ≡ fate → SequenceIsClean fate items (ItemsAreClean (ValueIsClean new) (fate_as options) items)
      → (ItemsAreClean (ValueIsClean new) (fate_as options) items → length (recode_items s (items_away (normal_items k items))) ≡ length (recode_items s items)) → AreFramed (away depth (normal k rest)) rest
      → AreFramed (away depth (normal k (sequence t vr declared items rest))) (sequence t vr declared items rest)
  sequence_goes_away k depth Remove t vr declared items rest e clean inner h = absurd clean
  sequence_goes_away k depth Empty t vr declared items rest e clean inner h = sequence_away k depth Empty t vr declared items rest e (λ q. cc) (ap (λ (i : Items). length (recode_items s i)) (sym clean)) h
  sequence_goes_away k depth Replace t vr declared items rest e clean inner h = sequence_away k depth Replace t vr declared items rest e (λ q. cc) (ap (λ (i : Items). length (recode_items s i)) (sym clean)) h
  sequence_goes_away k depth (Anew made) t vr declared items rest e clean inner h = sequence_away k depth (Anew made) t vr declared items rest e (λ q. cc) (ap (λ (i : Items). length (recode_items s i)) (sym clean)) h
  sequence_goes_away k depth Keep t vr declared items rest e clean inner h = sequence_away k depth Keep t vr declared items rest e (λ q. cc) (inner clean) h

  list_goes_away : (k : Syntax) (depth : Depth) (fate : Fate) (t : Tag) (vr : Vr) (parts : List (List ℕ)) (rest : Trees) → fate_as options depth AsBytes t ≡ fate → IsKept fate → AreFramed (away depth (normal k rest)) rest
      → AreFramed (away depth (normal k (fragments t vr parts rest))) (fragments t vr parts rest)
  list_goes_away k depth Remove t vr parts rest e clean h = absurd clean
  list_goes_away k depth Empty t vr parts rest e clean h = absurd clean
  list_goes_away k depth Replace t vr parts rest e clean h = absurd clean
  list_goes_away k depth (Anew made) t vr parts rest e clean h = absurd clean
  list_goes_away k depth Keep t vr parts rest e clean h =
      let written : (t.element == 0) ≡ false = stays_written options depth AsBytes t Keep e (λ q. cc) in
      subst (λ (z : Trees). AreFramed z (fragments t vr parts rest)) (sym (list_left options back k depth t vr parts rest e))
      (two_lists s t vr vr (map (evened 0) parts) parts (away depth (normal k rest)) rest (same_framed _ _ (list_alone s t vr parts written)) h)

  mutual
    unfolding normal

    pub goes_away : (k : Syntax) (depth : Depth) (x : Trees) → IsBy k s → AreNamed k x → IsClean (fate_as options) new depth x → AreFramed (away depth (normal k x)) x
    goes_away k depth no_tree by named clean = both_end s
    goes_away k depth (leaf t vr v rest) by named clean =
        leaf_goes_away k depth (fate_as options depth AsBytes t) t vr v rest refl by named.0 named.1 clean.0 (λ j b n. goes_away j depth rest b n clean.1)
    goes_away k depth (sequence t vr declared items rest) by named clean =
        sequence_goes_away k depth (fate_as options depth AsItems t) t vr declared items rest refl clean.0 (λ c. items_go_away k items by named.0 c) (goes_away k depth rest by named.1 clean.1)
    goes_away k depth (fragments t vr parts rest) by named clean = list_goes_away k depth (fate_as options depth AsBytes t) t vr parts rest refl clean.0 (goes_away k depth rest by named clean.1)

    items_go_away : (k : Syntax) (x : Items) → IsBy k s → ItemsAreNamed k x → ItemsAreClean (ValueIsClean new) (fate_as options) x → length (recode_items s (items_away (normal_items k x))) ≡ length (recode_items s x)
    items_go_away k no_item by named clean = refl
    items_go_away k (item declared set rest) by named clean =
        items_framed s Undefined declared _ _ _ _ (recodes_paired IsFramed framed_joins s _ _ (goes_away k Inside set by named.0 clean.0)).size (items_go_away k rest by named.1 clean.1)

-- ---- behind the group

never_by_head : (taken left : ℕ) (t : Tag) (vr : Vr) (l : Length) → group_place_of_head taken left t vr l ≢ the_end
never_by_head taken left t vr Undefined = λ e. cc
never_by_head taken left t vr (Known n) = by_tests _ _ _ _ n
  where
    by_tests : (a b c : Bool) (k m : ℕ) → (if a then a_fault BadMeta else if b then a_fault MetaTooLarge else if c then too_few else an_element t vr k m) ≢ the_end
    by_tests true b c k m = λ e. cc
    by_tests false true c k m = λ e. cc
    by_tests false false true k m = λ e. cc
    by_tests false false false k m = λ e. cc

few_or : (c : Bool) (other : GroupPlace) → other ≢ the_end → (if c then too_few else other) ≢ the_end
few_or true other h = λ e. cc
few_or false other h = h

never_by_vr : (taken : ℕ) (rest : List ℕ) (v : Option Vr) → group_place_of_vr taken rest v ≢ the_end
never_by_vr taken rest None = λ e. cc
never_by_vr taken rest (Some vr) = few_or _ _ (never_by_head taken (length rest) _ vr _)

ends_by_test : (c d : Bool) (other more : GroupPlace) → c ≡ d → more ≢ the_end → (if c then the_end else more) ≡ the_end → (if d then the_end else other) ≡ the_end
ends_by_test true true other more e h is = refl
ends_by_test true false other more e h is = absurd (cc)
ends_by_test false true other more e h is = absurd (cc)
ends_by_test false false other more e h is = absurd (h is)

-- what begins like bytes that end a group does so too
pub framed_ends : (n : ℕ) (x y : List ℕ) → IsFramed x y → group_place n y ≡ the_end → group_place n x ≡ the_end
unfolding group_place
framed_ends n [] [] h e = refl
framed_ends n [] (b ∷ y) h e = refl
framed_ends n (a ∷ x) [] h e = absurd (let size = h.size in omega (arith, size))
framed_ends n (a ∷ []) (b ∷ []) h e = absurd (cc)
framed_ends n (a ∷ []) (b ∷ c ∷ y) h e = absurd (let size = h.size in omega (arith, size))
framed_ends n (a ∷ d ∷ x) (b ∷ []) h e = absurd (let size = h.size in omega (arith, size))
framed_ends n (a ∷ d ∷ x) (b ∷ c ∷ y) h e =
    ends_by_test _ _ _ _ (ap (λ (z : List ℕ). not (number Little 2 z == 2)) (sym h.front)) (few_or (nat_lt (length (b ∷ c ∷ y)) 8) (group_place_of_vr n (b ∷ c ∷ y) (vr_at Little (b ∷ c ∷ y))) (never_by_vr n (b ∷ c ∷ y) (vr_at Little (b ∷ c ∷ y)))) e
