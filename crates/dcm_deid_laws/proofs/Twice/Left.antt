-- What is left of a data set is left of it again, as it is written and read.
use Rattle.std.proofs.Common.{◌≡◌, ◌≢◌, ◌∙◌, ap, sym, refl, subst, ℕ, ◌≤◌, List, [], ◌++◌, length, map, Bool, true, false, ◌&&◌, not, ◌==◌, if◌then◌else◌}
use Rattle.dcm_base.specs.declared.dictionary.Dictionary.{Dictionary}
use Rattle.dcm_base.specs.declared.length.Length.{Length}
use Rattle.dcm_base.specs.declared.length.Length.TheVariants.{Undefined}
use Rattle.dcm_base.specs.declared.syntax.Syntax.{Syntax}
use Rattle.dcm_base.specs.declared.syntax.Syntax.TheVariants.{Implicit as implicit_in, Little as little_in, Big as big_in}
use Rattle.dcm_base.specs.declared.tag.Tag.{Tag}
use Rattle.dcm_base.specs.declared.vr.Vr.{Vr}
use Rattle.dcm_base.specs.declared.vr.Vr.TheVariants.{SQ}
use Rattle.dcm_base.specs.Bytes.Spelling.{after, dictionary_after}
use Rattle.dcm_base.specs.Conversion.Normal.{normal, normal_items, normal_sequence_vr, normal_value, normal_vr}
use Rattle.dcm_base.specs.Conversion.Recode.{head, item_delimiter, item_head, recode_items, recode_set, recoded_leaf, sequence_delimiter, unless_dropped}
use Rattle.dcm_base.specs.Tables.Syntax.{dictionary_of, read_by}
use Rattle.dcm_base.specs.Tree.Tree.{Trees, no_tree, leaf, sequence, fragments, Items, no_item, item}
use Rattle.dcm_base.specs.Tree.Value.{evened}
use Rattle.dcm_base.proofs.Conversions.NormalForm.{leaf_again, recodes_normal}
use Rattle.dcm_base.proofs.DataSets.After.{read_by_twice}
use Rattle.dcm_deid.specs.MadeNew.{made_new}
use Rattle.dcm_deid.specs.declared.fate.Fate.{Fate}
use Rattle.dcm_deid.specs.declared.fate.Fate.TheVariants.{Remove, Empty, Replace, Anew, Keep}
use Rattle.dcm_deid.specs.declared.fate.Options.{Options}
use Rattle.dcm_deid.specs.declared.fate.Depth.{Depth}
use Rattle.dcm_deid.specs.declared.fate.Depth.TheVariants.{Inside}
use Rattle.dcm_deid.specs.declared.fate.ReadAs.{ReadAs}
use Rattle.dcm_deid.specs.declared.fate.ReadAs.TheVariants.{AsBytes, AsItems}
use Rattle.dcm_deid.specs.Fate.{fate_as}
use Rattle.dcm_deid.specs.Deidentify.{dummy, value_by, leaf_by, sequence_by, fragments_by, deidentified_set, items_by_fate}
use Rattle.dcm_deid.specs.Remains.{IsClean, IsKept, ItemsAreClean, SequenceIsClean, ValueIsClean}
use Rattle.dcm_deid.proofs.Trees.Known.{known}
use Rattle.dcm_deid_laws.proofs.Clean.{no_sign, none_written, short_vr}
use Rattle.dcm_deid_laws.proofs.Named.{AreNamed, IsNamed, ItemsAreNamed, named_after, same_after}
use Rattle.dcm_deid_laws.proofs.Ready.{dummy_short}
use Rattle.dcm_deid_laws.proofs.Twice.Alike.{AreAlike, both_end, two_leaves, two_sequences, two_lists, recodes_alike}
use Rattle.dcm_deid_laws.specs.Laws.{MakesNothingAnew}
use Rattle.dcm_deid_laws.proofs.Twice.Fates.{none_anew}

-- ---- what stays is no length of a group

no_length : (a b : Bool) → (not a && b) ≡ true → a ≡ false
no_length true b e = absurd (cc)
no_length false b e = refl

pub stays_written : (options : Options) (depth : Depth) (read : ReadAs) (t : Tag) (fate : Fate) → fate_as options depth read t ≡ fate → fate ≢ Remove → (t.element == 0) ≡ false
stays_written options depth read t fate e other = no_length (t.element == 0) _ (known options depth read t (λ k. other (sym e ∙ k)))

-- ---- one element is written alike by each dictionary

leaf_by_dictionary : (d : Dictionary) (s : Syntax) (t : Tag) (vr : Vr) (v : List ℕ) → recoded_leaf (read_by d s) t vr v ≡ recoded_leaf s t vr v
leaf_by_dictionary d (implicit_in e) t vr v = refl
leaf_by_dictionary d (little_in e) t vr v = refl
leaf_by_dictionary d (big_in e) t vr v = refl

pub leaf_alone : (s : Syntax) (t : Tag) (vr wr : Vr) (v w : List ℕ) → recoded_leaf s t vr v ≡ recoded_leaf s t wr w → recode_set s (leaf t vr v no_tree) ≡ recode_set s (leaf t wr w no_tree)
unfolding recode_set
leaf_alone s t vr wr v w e = ap (λ (x : List ℕ). unless_dropped t x ++ []) e

pub sequence_alone : (s : Syntax) (t : Tag) (vr wr : Vr) (m n : Length) (i j : Items) → recode_items s i ≡ recode_items s j → recode_set s (sequence t vr m i no_tree) ≡ recode_set s (sequence t wr n j no_tree)
unfolding recode_set
sequence_alone s t vr wr m n i j e = ap (λ (x : List ℕ). unless_dropped t (head s t SQ Undefined ++ x ++ sequence_delimiter s) ++ []) e

pub list_alone : (s : Syntax) (t : Tag) (vr : Vr) (parts : List (List ℕ)) → (t.element == 0) ≡ false → recode_set s (fragments t vr (map (evened 0) parts) no_tree) ≡ recode_set s (fragments t vr parts no_tree)
unfolding normal
list_alone s t vr parts e = sym (ap (λ (b : Bool). recode_set s (if b then no_tree else fragments t vr (map (evened 0) parts) no_tree)) e) ∙ recodes_normal s (fragments t vr parts no_tree)

pub items_alone : (s : Syntax) (m n : Length) (a b : Trees) (i j : Items) → recode_set s a ≡ recode_set s b → recode_items s i ≡ recode_items s j → recode_items s (item m a i) ≡ recode_items s (item n b j)
unfolding recode_set
items_alone s m n a b i j e f = ap (λ (x : List ℕ). item_head s Undefined ++ x ++ item_delimiter s ++ recode_items s i) e ∙ ap (λ (x : List ℕ). item_head s Undefined ++ recode_set s b ++ item_delimiter s ++ x) f

-- ---- data sets

-- a syntax by some dictionary
abbrev pub IsBy : Syntax → Syntax → Type 0
IsBy k s = (d : Dictionary) × (k ≡ read_by d s)

pub by_after : (k s : Syntax) (t : Tag) (vr : Vr) (v : List ℕ) → IsBy k s → IsBy (after k t vr v) s
by_after k s t vr v (d, is) = let e : Dictionary = dictionary_after (dictionary_of k) t vr v in (e, ap (read_by e) is ∙ read_by_twice e d s)

pub recoded_as : (k s : Syntax) (t : Tag) (vr wr : Vr) (v w : List ℕ) → IsBy k s → recoded_leaf k t vr v ≡ recoded_leaf k t wr w → recoded_leaf s t vr v ≡ recoded_leaf s t wr w
recoded_as k s t vr wr v w (d, is) e =
    sym (ap (λ (z : Syntax). recoded_leaf z t vr v) is ∙ leaf_by_dictionary d s t vr v) ∙ e ∙ (ap (λ (z : Syntax). recoded_leaf z t wr w) is ∙ leaf_by_dictionary d s t wr w)

module _ (options : Options) (key : List ℕ) (given : MakesNothingAnew options) (s : Syntax) where
  abbrev without : Depth → Trees → Trees
  without depth x = deidentified_set options (made_new options key) depth x

  abbrev without_items : Items → Items
  without_items x = items_by_fate (fate_as options) (value_by (made_new options key)) x

  -- a leaf that stays, with the value that it has again
  leaf_left : (k : Syntax) (depth : Depth) (fate : Fate) (t : Tag) (vr : Vr) (v : List ℕ) (rest : Trees) → fate_as options depth AsBytes t ≡ fate → fate ≢ Remove → IsBy k s
      → ((r : Trees) → leaf_by fate t (normal_vr k t vr (length v)) (value_by (made_new options key) fate (normal_vr k t vr (length v)) (normal_value k t vr v)) r ≡ leaf t (normal_vr k t vr (length v)) (value_by (made_new options key) fate (normal_vr k t vr (length v)) (normal_value k t vr v)) r)
      → recoded_leaf k t (normal_vr k t vr (length v)) (value_by (made_new options key) fate (normal_vr k t vr (length v)) (normal_value k t vr v)) ≡ recoded_leaf k t vr v
      → AreAlike s (without depth (normal (after k t (normal_vr k t vr (length v)) (normal_value k t vr v)) rest)) rest
      → AreAlike s (without depth (normal k (leaf t vr v rest))) (leaf t vr v rest)
  unfolding normal
  leaf_left k depth fate t vr v rest e other by stays same h =
      let w : Vr = normal_vr k t vr (length v) in
      let x : List ℕ = normal_value k t vr v in
      let more : Trees = normal (after k t w x) rest in
      let written : (t.element == 0) ≡ false = stays_written options depth AsBytes t fate e other in
      let is : without depth (if t.element == 0 then more else leaf t w x more) ≡ leaf t w (value_by (made_new options key) fate w x) (without depth more) =
      ap (λ (b : Bool). without depth (if b then more else leaf t w x more)) written ∙ ap (λ (f : Fate). leaf_by f t w (value_by (made_new options key) f w x) (without depth more)) e ∙ stays (without depth more)
      in
      subst (λ (z : Trees). AreAlike s z (leaf t vr v rest)) (sym is)
      (two_leaves s t w vr (value_by (made_new options key) fate w x) v (without depth more) rest (leaf_alone s t w vr (value_by (made_new options key) fate w x) v (recoded_as k s t w vr (value_by (made_new options key) fate w x) v by same)) h)

  leaf_again_left : (k : Syntax) (depth : Depth) (fate : Fate) (t : Tag) (vr : Vr) (v : List ℕ) (rest : Trees) → fate_as options depth AsBytes t ≡ fate → IsBy k s → IsNamed k t vr → AreNamed (after k t vr v) rest → ValueIsClean (made_new options key) fate vr v
      → ((j : Syntax) → IsBy j s → AreNamed j rest → AreAlike s (without depth (normal j rest)) rest) → AreAlike s (without depth (normal k (leaf t vr v rest))) (leaf t vr v rest)
  leaf_again_left k depth Remove t vr v rest e by is named clean more = absurd clean
  leaf_again_left k depth Empty t vr v rest e by is named clean more =
      let none = no_sign options depth t Empty e (λ q. cc) in
      let here : AreNamed k rest = subst (λ (j : Syntax). AreNamed j rest) (same_after k t vr v none) named in
      leaf_left k depth Empty t vr v rest e (λ q. cc) by (λ r. refl)
      (ap (λ (y : List ℕ). recoded_leaf k t (normal_vr k t vr (length y)) []) clean ∙ ap (recoded_leaf k t (normal_vr k t vr 0)) (sym (none_written k t vr)) ∙ leaf_again k t vr [] ∙ ap (recoded_leaf k t vr) (sym clean))
      (more _ (by_after k s t _ _ by) (subst (λ (j : Syntax). AreNamed j rest) (sym (same_after k t _ _ none)) here))
  leaf_again_left k depth Replace t vr v rest e by is named clean more =
      let none = no_sign options depth t Replace e (λ q. cc) in
      let here : AreNamed k rest = subst (λ (j : Syntax). AreNamed j rest) (same_after k t vr v none) named in
      let short : length v ≤ 256 = subst (λ (y : List ℕ). length y ≤ 256) (sym clean) (dummy_short vr) in
      leaf_left k depth Replace t vr v rest e (λ q. cc) by (λ r. refl) (ap (λ (w : Vr). recoded_leaf k t w (dummy w)) (short_vr k t vr (length v) short is) ∙ ap (recoded_leaf k t vr) (sym clean))
      (more _ (by_after k s t _ _ by) (subst (λ (j : Syntax). AreNamed j rest) (sym (same_after k t _ _ none)) here))
  leaf_again_left k depth (Anew made) t vr v rest e by is named clean more = absurd (none_anew options given made depth AsBytes t e)
  leaf_again_left k depth Keep t vr v rest e by is named clean more =
      leaf_left k depth Keep t vr v rest e (λ q. cc) by (λ r. refl) (leaf_again k t vr v) (more _ (by_after k s t _ _ by) (named_after k t vr v rest is named))

  sequence_left : (k : Syntax) (depth : Depth) (fate : Fate) (t : Tag) (vr : Vr) (declared : Length) (items left : Items) (rest : Trees) → fate_as options depth AsItems t ≡ fate → fate ≢ Remove
      → ((r : Trees) → sequence_by fate t (normal_sequence_vr k t) (without_items (normal_items k items)) r ≡ sequence t (normal_sequence_vr k t) Undefined left r) → recode_items s left ≡ recode_items s items
      → AreAlike s (without depth (normal k rest)) rest → AreAlike s (without depth (normal k (sequence t vr declared items rest))) (sequence t vr declared items rest)
  unfolding normal
  sequence_left k depth fate t vr declared items left rest e other stays same h =
      let w : Vr = normal_sequence_vr k t in
      let inner : Items = normal_items k items in
      let more : Trees = normal k rest in
      let written : (t.element == 0) ≡ false = stays_written options depth AsItems t fate e other in
      let is : without depth (if t.element == 0 then more else sequence t w Undefined inner more) ≡ sequence t w Undefined left (without depth more) =
      ap (λ (b : Bool). without depth (if b then more else sequence t w Undefined inner more)) written ∙ ap (λ (f : Fate). sequence_by f t w (without_items inner) (without depth more)) e ∙ stays (without depth more)
      in
      subst (λ (z : Trees). AreAlike s z (sequence t vr declared items rest)) (sym is)
      (two_sequences s t w vr Undefined declared left items (without depth more) rest (sequence_alone s t w vr Undefined declared left items same) h)

  sequence_again_left : (k : Syntax) (depth : Depth) (fate : Fate) (t : Tag) (vr : Vr) (declared : Length) (items : Items) (rest : Trees) → fate_as options depth AsItems t ≡ fate → SequenceIsClean fate items (ItemsAreClean (ValueIsClean (made_new options key)) (fate_as options) items)
      → (ItemsAreClean (ValueIsClean (made_new options key)) (fate_as options) items → recode_items s (without_items (normal_items k items)) ≡ recode_items s items) → AreAlike s (without depth (normal k rest)) rest
      → AreAlike s (without depth (normal k (sequence t vr declared items rest))) (sequence t vr declared items rest)
  sequence_again_left k depth Remove t vr declared items rest e clean inner h = absurd clean
  sequence_again_left k depth Empty t vr declared items rest e clean inner h = sequence_left k depth Empty t vr declared items no_item rest e (λ q. cc) (λ r. refl) (ap (recode_items s) (sym clean)) h
  sequence_again_left k depth Replace t vr declared items rest e clean inner h = sequence_left k depth Replace t vr declared items no_item rest e (λ q. cc) (λ r. refl) (ap (recode_items s) (sym clean)) h
  sequence_again_left k depth (Anew made) t vr declared items rest e clean inner h = absurd (none_anew options given made depth AsItems t e)
  sequence_again_left k depth Keep t vr declared items rest e clean inner h =
      sequence_left k depth Keep t vr declared items (without_items (normal_items k items)) rest e (λ q. cc) (λ r. refl) (inner clean) h

  fragments_again_left : (k : Syntax) (depth : Depth) (fate : Fate) (t : Tag) (vr : Vr) (parts : List (List ℕ)) (rest : Trees) → fate_as options depth AsBytes t ≡ fate → IsKept fate → AreAlike s (without depth (normal k rest)) rest
      → AreAlike s (without depth (normal k (fragments t vr parts rest))) (fragments t vr parts rest)
  unfolding normal
  fragments_again_left k depth Remove t vr parts rest e clean h = absurd clean
  fragments_again_left k depth Empty t vr parts rest e clean h = absurd clean
  fragments_again_left k depth Replace t vr parts rest e clean h = absurd clean
  fragments_again_left k depth (Anew made) t vr parts rest e clean h = absurd clean
  fragments_again_left k depth Keep t vr parts rest e clean h =
      let more : Trees = normal k rest in
      let written : (t.element == 0) ≡ false = stays_written options depth AsBytes t Keep e (λ q. cc) in
      let is : without depth (if t.element == 0 then more else fragments t vr (map (evened 0) parts) more) ≡ fragments t vr (map (evened 0) parts) (without depth more) =
      ap (λ (b : Bool). without depth (if b then more else fragments t vr (map (evened 0) parts) more)) written ∙ ap (λ (f : Fate). fragments_by f t vr (map (evened 0) parts) (without depth more)) e
      in
      subst (λ (z : Trees). AreAlike s z (fragments t vr parts rest)) (sym is) (two_lists s t vr vr (map (evened 0) parts) parts (without depth more) rest (list_alone s t vr parts written) h)

  mutual
    unfolding normal

    pub left_again : (k : Syntax) (depth : Depth) (x : Trees) → IsBy k s → AreNamed k x → IsClean (fate_as options) (made_new options key) depth x → AreAlike s (without depth (normal k x)) x
    left_again k depth no_tree by named clean = both_end s
    left_again k depth (leaf t vr v rest) by named clean =
        leaf_again_left k depth (fate_as options depth AsBytes t) t vr v rest refl by named.0 named.1 clean.0 (λ j b n. left_again j depth rest b n clean.1)
    left_again k depth (sequence t vr declared items rest) by named clean =
        sequence_again_left k depth (fate_as options depth AsItems t) t vr declared items rest refl clean.0 (λ c. items_left_again k items by named.0 c) (left_again k depth rest by named.1 clean.1)
    left_again k depth (fragments t vr parts rest) by named clean = fragments_again_left k depth (fate_as options depth AsBytes t) t vr parts rest refl clean.0 (left_again k depth rest by named clean.1)

    items_left_again : (k : Syntax) (x : Items) → IsBy k s → ItemsAreNamed k x → ItemsAreClean (ValueIsClean (made_new options key)) (fate_as options) x → recode_items s (without_items (normal_items k x)) ≡ recode_items s x
    items_left_again k no_item by named clean = refl
    items_left_again k (item declared set rest) by named clean =
        items_alone s Undefined declared _ _ _ _ (recodes_alike s _ _ (left_again k Inside set by named.0 clean.0)) (items_left_again k rest by named.1 clean.1)
