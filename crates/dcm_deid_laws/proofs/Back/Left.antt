-- What is left of a data set is left of it again once what is made anew in it was made so by others, and is made again.
use Rattle.std.proofs.Common.{◌≡◌, ◌≢◌, ◌∙◌, ap, sym, refl, subst, ℕ, ◌≤◌, List, [], length, map, Bool, false, ◌==◌, if◌then◌else◌}
use Rattle.dcm_base.specs.declared.length.Length.{Length}
use Rattle.dcm_base.specs.declared.length.Length.TheVariants.{Undefined}
use Rattle.dcm_base.specs.declared.syntax.Syntax.{Syntax}
use Rattle.dcm_base.specs.declared.syntax.Syntax.TheVariants.{Implicit as implicit_in, Little as little_in, Big as big_in}
use Rattle.dcm_base.specs.declared.tag.Tag.{Tag}
use Rattle.dcm_base.specs.declared.vr.Vr.{Vr}
use Rattle.dcm_base.specs.Bytes.Spelling.{after}
use Rattle.dcm_base.specs.Conversion.Normal.{normal, normal_items, normal_sequence_vr, normal_value, normal_vr}
use Rattle.dcm_base.specs.Conversion.Recode.{recode_items, recoded_leaf}
use Rattle.dcm_base.specs.Tables.Representation.{pad}
use Rattle.dcm_base.specs.Tables.Transfer.{without_pads}
use Rattle.dcm_base.specs.Tree.Tree.{Trees, no_tree, leaf, sequence, fragments, Items, no_item, item}
use Rattle.dcm_base.specs.Tree.Value.{evened, order}
use Rattle.dcm_base.proofs.Conversions.NormalForm.{evened_same, evened_size, leaf_again, leaf_once}
use Rattle.dcm_base.proofs.Conversions.Order.{length-order, order_twice}
use Rattle.dcm_base.proofs.DataSets.After.{after_same}
use Rattle.dcm_deid.specs.declared.fate.Fate.{Fate}
use Rattle.dcm_deid.specs.declared.fate.Fate.TheVariants.{Remove, Empty, Replace, Anew, Keep}
use Rattle.dcm_deid.specs.declared.fate.NewValue.{NewValue}
use Rattle.dcm_deid.specs.declared.fate.Options.{Options}
use Rattle.dcm_deid.specs.declared.fate.Depth.{Depth}
use Rattle.dcm_deid.specs.declared.fate.Depth.TheVariants.{Inside}
use Rattle.dcm_deid.specs.declared.fate.ReadAs.TheVariants.{AsBytes, AsItems}
use Rattle.dcm_deid.specs.Fate.{fate_as}
use Rattle.dcm_deid.specs.Deidentify.{Renaming, dummy, value_by, leaf_by, sequence_by, fragments_by, deidentified_set, items_by_fate}
use Rattle.dcm_deid.specs.Remains.{IsClean, IsKept, ItemsAreClean, SequenceIsClean, ValueIsClean}
use Rattle.dcm_deid.proofs.Trees.Instances.{without_pad}
use Rattle.dcm_deid_laws.proofs.Clean.{no_sign, none_written, short_value, short_vr}
use Rattle.dcm_deid_laws.proofs.Named.{AreNamed, IsNamed, ItemsAreNamed, named_after, same_after}
use Rattle.dcm_deid_laws.proofs.Ready.{dummy_short}
use Rattle.dcm_deid_laws.proofs.Twice.Alike.{AreAlike, both_end, two_leaves, two_sequences, two_lists, recodes_alike}
use Rattle.dcm_deid_laws.proofs.Twice.Left.{IsBy, by_after, items_alone, leaf_alone, list_alone, recoded_as, sequence_alone, stays_written}

-- ---- values

-- a normal form has the representation of the dictionary
pub named_normal : (k : Syntax) (t : Tag) (vr : Vr) (n : ℕ) → IsNamed k t (normal_vr k t vr n)
named_normal (implicit_in d) t vr n = refl
named_normal (little_in d) t vr n = tt
named_normal (big_in d) t vr n = tt

-- a short value that has its pad byte is written and read as it is
pub padded_again : (k : Syntax) (t : Tag) (vr : Vr) (b : List ℕ) → length (evened (pad vr) b) ≤ 256 → IsNamed k t vr → normal_value k t vr (evened (pad vr) b) ≡ evened (pad vr) b
padded_again k t vr b short is =
    let u : List ℕ = evened (pad vr) b in
    short_value k t vr u short is
    ∙ ap (order k vr) (evened_same (pad vr) (order k vr u) (length b) (length-order k vr u ∙ evened_size (pad vr) b))
    ∙ order_twice k vr u

-- one without bytes is written alike by its normal form
pub empty_again : (k : Syntax) (t : Tag) (vr : Vr) → recoded_leaf k t (normal_vr k t vr 0) [] ≡ recoded_leaf k t vr []
empty_again k t vr = ap (recoded_leaf k t (normal_vr k t vr 0)) (sym (none_written k t vr)) ∙ leaf_again k t vr []

pub same_leaf : (k : Syntax) (t : Tag) (vr w : Vr) (v x : List ℕ) → w ≡ vr → x ≡ v → recoded_leaf k t w x ≡ recoded_leaf k t vr v
same_leaf k t vr w v x e f = cc

-- a value that was made, read, made by another, read and made again
made_twice : (new back : List ℕ → List ℕ) (vr one two : Vr) (v x y old : List ℕ) → one ≡ vr → two ≡ one → v ≡ evened (pad vr) (new old) → x ≡ v → y ≡ evened (pad one) (back (without_pads x))
    → new (without_pads (back (without_pads (new old)))) ≡ new old → evened (pad two) (new (without_pads y)) ≡ v
made_twice new back vr one two v x y old p q made r b again =
    let was : without_pads x ≡ without_pads (new old) = ap without_pads (r ∙ made) ∙ without_pad vr (new old) in
    let there : without_pads y ≡ without_pads (back (without_pads (new old))) = ap without_pads b ∙ without_pad one (back (without_pads x)) ∙ ap (λ (z : List ℕ). without_pads (back z)) was in
    ap (λ (w : Vr). evened (pad w) (new (without_pads y))) (q ∙ p) ∙ ap (λ (z : List ℕ). evened (pad vr) (new z)) there ∙ ap (evened (pad vr)) again ∙ sym made

-- ---- elements

leaf_stays : (fate : Fate) (t : Tag) (vr : Vr) (v : List ℕ) (rest : Trees) → fate ≢ Remove → leaf_by fate t vr v rest ≡ leaf t vr v rest
leaf_stays Remove t vr v rest h = absurd (h refl)
leaf_stays Empty t vr v rest h = refl
leaf_stays Replace t vr v rest h = refl
leaf_stays (Anew made) t vr v rest h = refl
leaf_stays Keep t vr v rest h = refl

abbrev pub items_if : Fate → Items → Items
items_if Keep items = items
items_if _ items = no_item

sequence_stays : (fate : Fate) (t : Tag) (vr : Vr) (items : Items) (rest : Trees) → fate ≢ Remove → sequence_by fate t vr items rest ≡ sequence t vr Undefined (items_if fate items) rest
sequence_stays Remove t vr items rest h = absurd (h refl)
sequence_stays Empty t vr items rest h = refl
sequence_stays Replace t vr items rest h = refl
sequence_stays (Anew made) t vr items rest h = refl
sequence_stays Keep t vr items rest h = refl

module _ (options : Options) (new : Renaming) (k : Syntax) (depth : Depth) where
  abbrev left : Trees → Trees
  left x = deidentified_set options new depth x

  pub leaf_left : (fate : Fate) (t : Tag) (vr : Vr) (v : List ℕ) (rest : Trees) → fate_as options depth AsBytes t ≡ fate → fate ≢ Remove
      → left (normal k (leaf t vr v rest)) ≡ leaf t (normal_vr k t vr (length v)) (value_by new fate (normal_vr k t vr (length v)) (normal_value k t vr v)) (left (normal (after k t (normal_vr k t vr (length v)) (normal_value k t vr v)) rest))
  unfolding normal
  leaf_left fate t vr v rest e other =
      let w : Vr = normal_vr k t vr (length v) in
      let x : List ℕ = normal_value k t vr v in
      let more : Trees = normal (after k t w x) rest in
      ap (λ (b : Bool). left (if b then more else leaf t w x more)) (stays_written options depth AsBytes t fate e other)
      ∙ ap (λ (f : Fate). leaf_by f t w (value_by new f w x) (left more)) e
      ∙ leaf_stays fate t w (value_by new fate w x) (left more) other

  pub sequence_left : (fate : Fate) (t : Tag) (vr : Vr) (declared : Length) (items : Items) (rest : Trees) → fate_as options depth AsItems t ≡ fate → fate ≢ Remove
      → left (normal k (sequence t vr declared items rest)) ≡ sequence t (normal_sequence_vr k t) Undefined (items_if fate (items_by_fate (fate_as options) (value_by new) (normal_items k items))) (left (normal k rest))
  unfolding normal
  sequence_left fate t vr declared items rest e other =
      let w : Vr = normal_sequence_vr k t in
      let inner : Items = normal_items k items in
      let more : Trees = normal k rest in
      ap (λ (b : Bool). left (if b then more else sequence t w Undefined inner more)) (stays_written options depth AsItems t fate e other)
      ∙ ap (λ (f : Fate). sequence_by f t w (items_by_fate (fate_as options) (value_by new) inner) (left more)) e
      ∙ sequence_stays fate t w (items_by_fate (fate_as options) (value_by new) inner) (left more) other

  pub list_left : (t : Tag) (vr : Vr) (parts : List (List ℕ)) (rest : Trees) → fate_as options depth AsBytes t ≡ Keep → left (normal k (fragments t vr parts rest)) ≡ fragments t vr (map (evened 0) parts) (left (normal k rest))
  unfolding normal
  list_left t vr parts rest e =
      let more : Trees = normal k rest in
      ap (λ (b : Bool). left (if b then more else fragments t vr (map (evened 0) parts) more)) (stays_written options depth AsBytes t Keep e (λ q. cc))
      ∙ ap (λ (f : Fate). fragments_by f t vr (map (evened 0) parts) (left more)) e

-- ---- data sets

-- what others make is short, and of what they make the same is made again
pub record MadeAgain (options : Options) (new back : Renaming) : Type 0 where
  pub short : (made : NewValue) (vr : Vr) (b : List ℕ) → length (evened (pad vr) (new made b)) ≤ 256
  pub short_back : (made : NewValue) (vr : Vr) (b : List ℕ) → length (evened (pad vr) (back made b)) ≤ 256
  pub again : (depth : Depth) (t : Tag) (made : NewValue) (b : List ℕ) → fate_as options depth AsBytes t ≡ Anew made → new made (without_pads (back made (without_pads (new made b)))) ≡ new made b

module _ (options : Options) (new back : Renaming) (can : MadeAgain options new back) (s : Syntax) where
  abbrev there : Depth → Trees → Trees
  there depth x = deidentified_set options new depth x

  abbrev away : Depth → Trees → Trees
  away depth x = deidentified_set options back depth x

  abbrev both : Syntax → Depth → Trees → Trees
  both k depth x = there depth (normal k (away depth (normal k x)))

  abbrev items_there : Items → Items
  items_there x = items_by_fate (fate_as options) (value_by new) x

  abbrev items_away : Items → Items
  items_away x = items_by_fate (fate_as options) (value_by back) x

  abbrev items_both : Syntax → Items → Items
  items_both k x = items_there (normal_items k (items_away (normal_items k x)))

  abbrev MoreAgain : Depth → Trees → Type 0
  MoreAgain depth rest = (k : Syntax) → IsBy k s → AreNamed k rest → AreAlike s (both k depth rest) rest

  -- a leaf that stays, as it is written and read twice
  module _ (k : Syntax) (t : Tag) (fate : Fate) (vr : Vr) (v : List ℕ) where
    abbrev one_vr : Vr
    one_vr = normal_vr k t vr (length v)

    abbrev one : List ℕ
    one = normal_value k t vr v

    abbrev other : List ℕ
    other = value_by back fate one_vr one

    abbrev two_vr : Vr
    two_vr = normal_vr k t one_vr (length other)

    abbrev two : List ℕ
    two = normal_value k t one_vr other

    abbrev last : List ℕ
    last = value_by new fate two_vr two

    leaf_both : (depth : Depth) (rest : Trees) → fate_as options depth AsBytes t ≡ fate → fate ≢ Remove → IsBy k s → after k t two_vr two ≡ after k t one_vr one → recoded_leaf k t two_vr last ≡ recoded_leaf k t vr v
        → AreAlike s (both (after k t one_vr one) depth rest) rest → AreAlike s (both k depth (leaf t vr v rest)) (leaf t vr v rest)
    leaf_both depth rest e stays by same bytes h =
        let j : Syntax = after k t one_vr one in
        let more : Trees = away depth (normal j rest) in
        let is : both k depth (leaf t vr v rest) ≡ leaf t two_vr last (there depth (normal j more)) =
        ap (λ (z : Trees). there depth (normal k z)) (leaf_left options back k depth fate t vr v rest e stays)
        ∙ leaf_left options new k depth fate t one_vr other more e stays
        ∙ ap (λ (i : Syntax). leaf t two_vr last (there depth (normal i more))) same
        in
        subst (λ (z : Trees). AreAlike s z (leaf t vr v rest)) (sym is)
        (two_leaves s t two_vr vr last v (there depth (normal j more)) rest (leaf_alone s t two_vr vr last v (recoded_as k s t two_vr vr last v by bytes)) h)

    -- one that says no sign
    plain_both : (depth : Depth) (rest : Trees) → fate_as options depth AsBytes t ≡ fate → fate ≢ Remove → fate ≢ Keep → IsBy k s → AreNamed (after k t vr v) rest → MoreAgain depth rest
        → recoded_leaf k t two_vr last ≡ recoded_leaf k t vr v → AreAlike s (both k depth (leaf t vr v rest)) (leaf t vr v rest)
    plain_both depth rest e stays changes by named more bytes =
        let none = no_sign options depth t fate e changes in
        let here : AreNamed k rest = subst (λ (j : Syntax). AreNamed j rest) (same_after k t vr v none) named in
        leaf_both depth rest e stays by (same_after k t two_vr two none ∙ sym (same_after k t one_vr one none)) bytes
        (more (after k t one_vr one) (by_after k s t one_vr one by) (subst (λ (j : Syntax). AreNamed j rest) (sym (same_after k t one_vr one none)) here))

  empty_both : (k : Syntax) (t : Tag) (vr : Vr) (v : List ℕ) → v ≡ [] → recoded_leaf k t (two_vr k t Empty vr v) [] ≡ recoded_leaf k t vr v
  empty_both k t vr v none =
      empty_again k t (normal_vr k t vr (length v))
      ∙ ap (λ (y : List ℕ). recoded_leaf k t (normal_vr k t vr (length y)) []) none
      ∙ empty_again k t vr ∙ ap (recoded_leaf k t vr) (sym none)

  replace_both : (k : Syntax) (t : Tag) (vr : Vr) (v : List ℕ) → IsNamed k t vr → v ≡ dummy vr → recoded_leaf k t (two_vr k t Replace vr v) (dummy (two_vr k t Replace vr v)) ≡ recoded_leaf k t vr v
  replace_both k t vr v is clean =
      let first : normal_vr k t vr (length v) ≡ vr = short_vr k t vr (length v) (subst (λ (y : List ℕ). length y ≤ 256) (sym clean) (dummy_short vr)) is in
      let w : Vr = normal_vr k t vr (length v) in
      let second : two_vr k t Replace vr v ≡ w = short_vr k t w (length (dummy w)) (dummy_short w) (named_normal k t vr (length v)) in
      same_leaf k t vr (two_vr k t Replace vr v) v (dummy (two_vr k t Replace vr v)) (second ∙ first) (ap dummy (second ∙ first) ∙ sym clean)

  anew_both : (k : Syntax) (depth : Depth) (made : NewValue) (t : Tag) (vr : Vr) (v old : List ℕ) → fate_as options depth AsBytes t ≡ Anew made → IsNamed k t vr → v ≡ evened (pad vr) (new made old)
      → recoded_leaf k t (two_vr k t (Anew made) vr v) (last k t (Anew made) vr v) ≡ recoded_leaf k t vr v
  anew_both k depth made t vr v old e is clean =
      let w : Vr = normal_vr k t vr (length v) in
      let first : w ≡ vr = short_vr k t vr (length v) (subst (λ (y : List ℕ). length y ≤ 256) (sym clean) (can.short made vr old)) is in
      let read : normal_value k t vr v ≡ v = ap (normal_value k t vr) clean ∙ padded_again k t vr (new made old) (can.short made vr old) is ∙ sym clean in
      let named : IsNamed k t w = named_normal k t vr (length v) in
      let b : List ℕ = back made (without_pads (normal_value k t vr v)) in
      let second : two_vr k t (Anew made) vr v ≡ w = short_vr k t w (length (evened (pad w) b)) (can.short_back made w (without_pads (normal_value k t vr v))) named in
      let read_back : two k t (Anew made) vr v ≡ evened (pad w) b = padded_again k t w b (can.short_back made w (without_pads (normal_value k t vr v))) named in
      same_leaf k t vr (two_vr k t (Anew made) vr v) v (last k t (Anew made) vr v) (second ∙ first)
      (made_twice (new made) (back made) vr w (two_vr k t (Anew made) vr v) v (normal_value k t vr v) (two k t (Anew made) vr v) old first second clean read read_back (can.again depth t made old e))

  leaf_again_both : (k : Syntax) (depth : Depth) (fate : Fate) (t : Tag) (vr : Vr) (v : List ℕ) (rest : Trees) → fate_as options depth AsBytes t ≡ fate → IsBy k s → IsNamed k t vr → AreNamed (after k t vr v) rest → ValueIsClean new fate vr v
      → MoreAgain depth rest → AreAlike s (both k depth (leaf t vr v rest)) (leaf t vr v rest)
  leaf_again_both k depth Remove t vr v rest e by is named clean more = absurd clean
  leaf_again_both k depth Empty t vr v rest e by is named clean more = plain_both k t Empty vr v depth rest e (λ q. cc) (λ q. cc) by named more (empty_both k t vr v clean)
  leaf_again_both k depth Replace t vr v rest e by is named clean more = plain_both k t Replace vr v depth rest e (λ q. cc) (λ q. cc) by named more (replace_both k t vr v is clean)
  leaf_again_both k depth (Anew made) t vr v rest e by is named clean more =
      plain_both k t (Anew made) vr v depth rest e (λ q. cc) (λ q. cc) by named more (anew_both k depth made t vr v clean.0 e is clean.1)
  leaf_again_both k depth Keep t vr v rest e by is named clean more =
      let w : Vr = normal_vr k t vr (length v) in
      let x : List ℕ = normal_value k t vr v in
      let again = leaf_once k t vr v in
      leaf_both k t Keep vr v depth rest e (λ q. cc) by (after_same k t t _ w _ x [] [] (refl, again.vrs, again.values, refl))
      (same_leaf k t w (two_vr k t Keep vr v) x (two k t Keep vr v) again.vrs again.values ∙ leaf_again k t vr v)
      (more (after k t w x) (by_after k s t w x by) (named_after k t vr v rest is named))

  sequence_both : (k : Syntax) (depth : Depth) (fate : Fate) (t : Tag) (vr : Vr) (declared : Length) (items : Items) (rest : Trees) → fate_as options depth AsItems t ≡ fate → fate ≢ Remove
      → recode_items s (items_if fate (items_there (normal_items k (items_if fate (items_away (normal_items k items)))))) ≡ recode_items s items
      → AreAlike s (both k depth rest) rest → AreAlike s (both k depth (sequence t vr declared items rest)) (sequence t vr declared items rest)
  sequence_both k depth fate t vr declared items rest e stays same h =
      let w : Vr = normal_sequence_vr k t in
      let first : Items = items_if fate (items_away (normal_items k items)) in
      let second : Items = items_if fate (items_there (normal_items k first)) in
      let is : both k depth (sequence t vr declared items rest) ≡ sequence t w Undefined second (both k depth rest) =
      ap (λ (z : Trees). there depth (normal k z)) (sequence_left options back k depth fate t vr declared items rest e stays)
      ∙ sequence_left options new k depth fate t w Undefined first (away depth (normal k rest)) e stays
      in
      subst (λ (z : Trees). AreAlike s z (sequence t vr declared items rest)) (sym is)
      (two_sequences s t w vr Undefined declared second items (both k depth rest) rest (sequence_alone s t w vr Undefined declared second items same) h)

  sequence_again_both : (k : Syntax) (depth : Depth) (fate : Fate) (t : Tag) (vr : Vr) (declared : Length) (items : Items) (rest : Trees) → fate_as options depth AsItems t ≡ fate → SequenceIsClean fate items (ItemsAreClean (ValueIsClean new) (fate_as options) items)
      → (ItemsAreClean (ValueIsClean new) (fate_as options) items → recode_items s (items_both k items) ≡ recode_items s items) → AreAlike s (both k depth rest) rest
      → AreAlike s (both k depth (sequence t vr declared items rest)) (sequence t vr declared items rest)
  sequence_again_both k depth Remove t vr declared items rest e clean inner h = absurd clean
  sequence_again_both k depth Empty t vr declared items rest e clean inner h = sequence_both k depth Empty t vr declared items rest e (λ q. cc) (ap (recode_items s) (sym clean)) h
  sequence_again_both k depth Replace t vr declared items rest e clean inner h = sequence_both k depth Replace t vr declared items rest e (λ q. cc) (ap (recode_items s) (sym clean)) h
  sequence_again_both k depth (Anew made) t vr declared items rest e clean inner h = sequence_both k depth (Anew made) t vr declared items rest e (λ q. cc) (ap (recode_items s) (sym clean)) h
  sequence_again_both k depth Keep t vr declared items rest e clean inner h = sequence_both k depth Keep t vr declared items rest e (λ q. cc) (inner clean) h

  list_again_both : (k : Syntax) (depth : Depth) (fate : Fate) (t : Tag) (vr : Vr) (parts : List (List ℕ)) (rest : Trees) → fate_as options depth AsBytes t ≡ fate → IsKept fate → AreAlike s (both k depth rest) rest
      → AreAlike s (both k depth (fragments t vr parts rest)) (fragments t vr parts rest)
  list_again_both k depth Remove t vr parts rest e clean h = absurd clean
  list_again_both k depth Empty t vr parts rest e clean h = absurd clean
  list_again_both k depth Replace t vr parts rest e clean h = absurd clean
  list_again_both k depth (Anew made) t vr parts rest e clean h = absurd clean
  list_again_both k depth Keep t vr parts rest e clean h =
      let once : List (List ℕ) = map (evened 0) parts in
      let written : (t.element == 0) ≡ false = stays_written options depth AsBytes t Keep e (λ q. cc) in
      let is : both k depth (fragments t vr parts rest) ≡ fragments t vr (map (evened 0) once) (both k depth rest) =
      ap (λ (z : Trees). there depth (normal k z)) (list_left options back k depth t vr parts rest e)
      ∙ list_left options new k depth t vr once (away depth (normal k rest)) e
      in
      subst (λ (z : Trees). AreAlike s z (fragments t vr parts rest)) (sym is)
      (two_lists s t vr vr (map (evened 0) once) parts (both k depth rest) rest (list_alone s t vr once written ∙ list_alone s t vr parts written) h)

  mutual
    unfolding normal

    pub again_both : (k : Syntax) (depth : Depth) (x : Trees) → IsBy k s → AreNamed k x → IsClean (fate_as options) new depth x → AreAlike s (both k depth x) x
    again_both k depth no_tree by named clean = both_end s
    again_both k depth (leaf t vr v rest) by named clean =
        leaf_again_both k depth (fate_as options depth AsBytes t) t vr v rest refl by named.0 named.1 clean.0 (λ j b n. again_both j depth rest b n clean.1)
    again_both k depth (sequence t vr declared items rest) by named clean =
        sequence_again_both k depth (fate_as options depth AsItems t) t vr declared items rest refl clean.0 (λ c. items_again_both k items by named.0 c) (again_both k depth rest by named.1 clean.1)
    again_both k depth (fragments t vr parts rest) by named clean = list_again_both k depth (fate_as options depth AsBytes t) t vr parts rest refl clean.0 (again_both k depth rest by named clean.1)

    items_again_both : (k : Syntax) (x : Items) → IsBy k s → ItemsAreNamed k x → ItemsAreClean (ValueIsClean new) (fate_as options) x → recode_items s (items_both k x) ≡ recode_items s x
    items_again_both k no_item by named clean = refl
    items_again_both k (item declared set rest) by named clean =
        items_alone s Undefined declared _ _ _ _ (recodes_alike s _ _ (again_both k Inside set by named.0 clean.0)) (items_again_both k rest by named.1 clean.1)
