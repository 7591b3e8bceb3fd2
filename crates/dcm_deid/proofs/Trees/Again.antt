-- Data sets by the fates of their elements, one after another.
use Rattle.std.proofs.Common.{◌≡◌, ◌∙◌, ap, sym, refl, ℕ, ℤ, List, []}
use Rattle.dcm_base.specs.declared.tag.Tag.{Tag}
use Rattle.dcm_base.specs.declared.vr.Vr.{Vr}
use Rattle.dcm_base.specs.declared.length.Length.TheVariants.{Undefined}
use Rattle.dcm_base.specs.Tree.Tree.{Trees, no_tree, leaf, sequence, fragments, Items, no_item, item}
use Rattle.dcm_base.specs.Tables.Representation.{pad}
use Rattle.dcm_base.specs.Tree.Value.{evened}
use Rattle.dcm_deid.specs.declared.fate.Fate.{Fate}
use Rattle.dcm_deid.specs.declared.fate.Fate.TheVariants.{Remove, Empty, Replace, Anew, Keep}
use Rattle.dcm_deid.specs.declared.fate.Options.{Options}
use Rattle.dcm_deid.specs.declared.fate.Depth.{Depth}
use Rattle.dcm_deid.specs.declared.fate.Temporal.{Temporal}
use Rattle.dcm_deid.specs.declared.fate.Temporal.TheVariants.{Removed, Full, Modified}
use Rattle.dcm_deid.specs.declared.fate.Depth.TheVariants.{Outermost, Inside}
use Rattle.dcm_deid.specs.declared.fate.ReadAs.{ReadAs}
use Rattle.dcm_deid.specs.declared.fate.ReadAs.TheVariants.{AsBytes, AsItems}
use Rattle.dcm_deid.specs.Fate.{fate_as}
use Rattle.dcm_deid.specs.Deidentify.{dummy, value_by, leaf_by, sequence_by, fragments_by, Fates, Values, by_fate, items_by_fate, deidentified_set}
use Rattle.dcm_deid.specs.MadeNew.{from_left, left_of, made_new}
use Rattle.dcm_deid.specs.Alike.{value_left, moved_by, moving, struck, Alike}

module _ (fates : Fates) (u v w : Values) (composed : (fate : Fate) (vr : Vr) (value : List ℕ) → w fate vr value ≡ u fate vr (v fate vr value)) where
  leaf_again : (depth : Depth) (fate : Fate) (tag : Tag) (vr : Vr) (value : List ℕ) (rest more : Trees) → fates depth AsBytes tag ≡ fate → more ≡ by_fate fates u depth rest
      → leaf_by fate tag vr (w fate vr value) more ≡ by_fate fates u depth (leaf_by fate tag vr (v fate vr value) rest)
  leaf_again depth Remove tag vr value rest more e h = h
  leaf_again depth Empty tag vr value rest more e h = rw (e, h, composed) refl
  leaf_again depth Replace tag vr value rest more e h = rw (e, h, composed) refl
  leaf_again depth (Anew made) tag vr value rest more e h = rw (e, h, composed) refl
  leaf_again depth Keep tag vr value rest more e h = rw (e, h, composed) refl

  sequence_again : (depth : Depth) (fate : Fate) (tag : Tag) (vr : Vr) (items more_items : Items) (rest more : Trees) → fates depth AsItems tag ≡ fate
      → more_items ≡ items_by_fate fates u items → more ≡ by_fate fates u depth rest
      → sequence_by fate tag vr more_items more ≡ by_fate fates u depth (sequence_by fate tag vr items rest)
  sequence_again depth Remove tag vr items more_items rest more e i h = h
  sequence_again depth Empty tag vr items more_items rest more e i h = rw (e, h) refl
  sequence_again depth Replace tag vr items more_items rest more e i h = rw (e, h) refl
  sequence_again depth (Anew made) tag vr items more_items rest more e i h = rw (e, h) refl
  sequence_again depth Keep tag vr items more_items rest more e i h = rw (e, i, h) refl

  fragments_again : (depth : Depth) (fate : Fate) (tag : Tag) (vr : Vr) (values : List (List ℕ)) (rest more : Trees) → fates depth AsBytes tag ≡ fate
      → more ≡ by_fate fates u depth rest → fragments_by fate tag vr values more ≡ by_fate fates u depth (fragments_by fate tag vr values rest)
  fragments_again depth Remove tag vr values rest more e h = h
  fragments_again depth Empty tag vr values rest more e h = h
  fragments_again depth Replace tag vr values rest more e h = h
  fragments_again depth (Anew made) tag vr values rest more e h = h
  fragments_again depth Keep tag vr values rest more e h = rw (e, h) refl

  item_again : (set more : Trees) (rest more_items : Items) → more ≡ by_fate fates u Inside set → more_items ≡ items_by_fate fates u rest
      → item Undefined more more_items ≡ items_by_fate fates u (item Undefined set rest)
  item_again set more rest more_items h i = rw (h, i) refl

  mutual
    pub again : (depth : Depth) (f : Trees) → by_fate fates w depth f ≡ by_fate fates u depth (by_fate fates v depth f)
    again depth no_tree = refl
    again depth (leaf tag vr value rest) = leaf_again depth (fates depth AsBytes tag) tag vr value (by_fate fates v depth rest) (by_fate fates w depth rest) refl (again depth rest)
    again depth (sequence tag vr declared items rest) =
        sequence_again depth (fates depth AsItems tag) tag vr (items_by_fate fates v items) (items_by_fate fates w items) (by_fate fates v depth rest) (by_fate fates w depth rest) refl (items_again items) (again depth rest)
    again depth (fragments tag vr values rest) = fragments_again depth (fates depth AsBytes tag) tag vr values (by_fate fates v depth rest) (by_fate fates w depth rest) refl (again depth rest)

    pub items_again : (items : Items) → items_by_fate fates w items ≡ items_by_fate fates u (items_by_fate fates v items)
    items_again no_item = refl
    items_again (item declared set rest) = item_again (by_fate fates v Inside set) (by_fate fates w Inside set) (items_by_fate fates v rest) (items_by_fate fates w rest) (again Inside set) (items_again rest)

-- ---- by the same fates

module _ (one other : Fates) (values : Values) (same : (depth : Depth) (read : ReadAs) (tag : Tag) → one depth read tag ≡ other depth read tag) where
  mutual
    pub by_same_fates : (depth : Depth) (f : Trees) → by_fate one values depth f ≡ by_fate other values depth f
    by_same_fates depth no_tree = refl
    by_same_fates depth (leaf tag vr value rest) = rw (same depth AsBytes tag, by_same_fates depth rest) refl
    by_same_fates depth (sequence tag vr declared items rest) = rw (same depth AsItems tag, items_by_same_fates items, by_same_fates depth rest) refl
    by_same_fates depth (fragments tag vr values rest) = rw (same depth AsBytes tag, by_same_fates depth rest) refl

    pub items_by_same_fates : (items : Items) → items_by_fate one values items ≡ items_by_fate other values items
    items_by_same_fates no_item = refl
    items_by_same_fates (item declared set rest) = rw (by_same_fates Inside set, items_by_same_fates rest) refl

-- ---- what is written, of what is left of values

abbrev written : (key : List ℕ) → Values
written key Remove vr value = []
written key Empty vr value = []
written key Replace vr value = dummy vr
written key (Anew made) vr value = evened (pad vr) (from_left key made value)
written key Keep vr value = value

of_left : (options : Options) (key : List ℕ) (fate : Fate) (vr : Vr) (value : List ℕ)
    → value_by (made_new options key) fate vr value ≡ written key fate vr (value_left (left_of options) fate vr value)
unfolding made_new
of_left options key Remove vr value = refl
of_left options key Empty vr value = refl
of_left options key Replace vr value = refl
of_left options key (Anew made) vr value = refl
of_left options key Keep vr value = refl

-- which elements are taken does not depend on by how many days dates are moved
pub same_fates : (options : Options) (d e : ℤ) (depth : Depth) (read : ReadAs) (tag : Tag)
    → fate_as (moving options d) depth read tag ≡ fate_as (moving options e) depth read tag
unfolding fate_as
same_fates options d e depth AsItems tag = by_dates options.dates
  where
    by_dates : (t : Temporal) → fate_as (record options { dates = moved_by d t }) depth AsItems tag ≡ fate_as (record options { dates = moved_by e t }) depth AsItems tag
    by_dates Removed = refl
    by_dates Full = refl
    by_dates (Modified days) = at_depth depth
      where
        at_depth : (at : Depth) → fate_as (record options { dates = Modified d }) at AsItems tag ≡ fate_as (record options { dates = Modified e }) at AsItems tag
        at_depth Outermost = refl
        at_depth Inside = refl
same_fates options d e depth AsBytes tag = by_dates options.dates
  where
    by_dates : (t : Temporal) → fate_as (record options { dates = moved_by d t }) depth AsBytes tag ≡ fate_as (record options { dates = moved_by e t }) depth AsBytes tag
    by_dates Removed = refl
    by_dates Full = refl
    by_dates (Modified days) = at_depth depth
      where
        at_depth : (at : Depth) → fate_as (record options { dates = Modified d }) at AsBytes tag ≡ fate_as (record options { dates = Modified e }) at AsBytes tag
        at_depth Outermost = refl
        at_depth Inside = refl

abbrev left_in : Options → (key : List ℕ) → Depth → Trees → Trees
left_in options key depth f = by_fate (fate_as options) (written key) depth f

all_of_left : (options : Options) (key : List ℕ) (depth : Depth) (f : Trees)
    → deidentified_set options (made_new options key) depth f ≡ left_in options key depth (struck options depth f)
all_of_left options key depth f =
    again (fate_as options) (written key) (value_left (left_of options)) (value_by (made_new options key)) (of_left options key) depth f

pub nothing_flows : (options : Options) (key : List ℕ) (depth : Depth) (d e : ℤ) (f g : Trees) → Alike options depth d e f g
    → deidentified_set (moving options d) (made_new (moving options d) key) depth f
    ≡ deidentified_set (moving options e) (made_new (moving options e) key) depth g
nothing_flows options key depth d e f g alike =
    all_of_left (moving options d) key depth f
    ∙ ap (left_in (moving options d) key depth) alike.same_left
    ∙ by_same_fates (fate_as (moving options d)) (fate_as (moving options e)) (written key) (same_fates options d e) depth (struck (moving options e) depth g)
    ∙ sym (all_of_left (moving options e) key depth g)
