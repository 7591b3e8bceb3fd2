-- What has fate keep is as it was.
use Rattle.std.proofs.Common.{◌≡◌, refl, ℕ, List}
use Rattle.dcm_base.specs.declared.tag.Tag.{Tag}
use Rattle.dcm_base.specs.declared.vr.Vr.{Vr}
use Rattle.dcm_base.specs.declared.length.Length.TheVariants.{Undefined}
use Rattle.dcm_base.specs.Tree.Tree.{Trees, no_tree, leaf, sequence, fragments, Items, no_item, item}
use Rattle.dcm_deid.specs.declared.fate.Fate.{Fate}
use Rattle.dcm_deid.specs.declared.fate.Fate.TheVariants.{Remove, Empty, Replace, Anew, Keep}
use Rattle.dcm_deid.specs.declared.fate.Options.{Options}
use Rattle.dcm_deid.specs.declared.fate.Depth.{Depth}
use Rattle.dcm_deid.specs.declared.fate.Depth.TheVariants.{Inside}
use Rattle.dcm_deid.specs.declared.fate.ReadAs.TheVariants.{AsBytes, AsItems}
use Rattle.dcm_deid.specs.Fate.{fate_as}
use Rattle.dcm_deid.specs.Deidentify.{Renaming, value_by, leaf_by, sequence_by, fragments_by, Fates, by_fate, items_by_fate, deidentified_set}
use Rattle.dcm_deid.specs.Remains.{kept_or_removed, value_itself, kept_of}

module _ (fates : Fates) (new : Renaming) where
  abbrev keeping : Fates
  keeping depth form tag = kept_or_removed (fates depth form tag)

  leaf_kept : (depth : Depth) (fate : Fate) (tag : Tag) (vr : Vr) (value : List ℕ) (rest more : Trees) → fates depth AsBytes tag ≡ fate
      → by_fate keeping value_itself depth rest ≡ more
      → by_fate keeping value_itself depth (leaf_by fate tag vr (value_by new fate vr value) rest) ≡ leaf_by (kept_or_removed fate) tag vr value more
  leaf_kept depth Remove tag vr value rest more e h = h
  leaf_kept depth Empty tag vr value rest more e h = rw (e, h) refl
  leaf_kept depth Replace tag vr value rest more e h = rw (e, h) refl
  leaf_kept depth (Anew made) tag vr value rest more e h = rw (e, h) refl
  leaf_kept depth Keep tag vr value rest more e h = rw (e, h) refl

  sequence_kept : (depth : Depth) (fate : Fate) (tag : Tag) (vr : Vr) (items more_items : Items) (rest more : Trees) → fates depth AsItems tag ≡ fate
      → items_by_fate keeping value_itself items ≡ more_items → by_fate keeping value_itself depth rest ≡ more
      → by_fate keeping value_itself depth (sequence_by fate tag vr items rest) ≡ sequence_by (kept_or_removed fate) tag vr more_items more
  sequence_kept depth Remove tag vr items more_items rest more e i h = h
  sequence_kept depth Empty tag vr items more_items rest more e i h = rw (e, h) refl
  sequence_kept depth Replace tag vr items more_items rest more e i h = rw (e, h) refl
  sequence_kept depth (Anew made) tag vr items more_items rest more e i h = rw (e, h) refl
  sequence_kept depth Keep tag vr items more_items rest more e i h = rw (e, i, h) refl

  fragments_kept : (depth : Depth) (fate : Fate) (tag : Tag) (vr : Vr) (values : List (List ℕ)) (rest more : Trees) → fates depth AsBytes tag ≡ fate
      → by_fate keeping value_itself depth rest ≡ more
      → by_fate keeping value_itself depth (fragments_by fate tag vr values rest) ≡ fragments_by (kept_or_removed fate) tag vr values more
  fragments_kept depth Remove tag vr values rest more e h = h
  fragments_kept depth Empty tag vr values rest more e h = h
  fragments_kept depth Replace tag vr values rest more e h = h
  fragments_kept depth (Anew made) tag vr values rest more e h = h
  fragments_kept depth Keep tag vr values rest more e h = rw (e, h) refl

  item_kept : (set more : Trees) (rest more_items : Items) → by_fate keeping value_itself Inside set ≡ more → items_by_fate keeping value_itself rest ≡ more_items
      → items_by_fate keeping value_itself (item Undefined set rest) ≡ item Undefined more more_items
  item_kept set more rest more_items h i = rw (h, i) refl

  mutual
    pub kept : (depth : Depth) (f : Trees) → by_fate keeping value_itself depth (by_fate fates (value_by new) depth f) ≡ by_fate keeping value_itself depth f
    kept depth no_tree = refl
    kept depth (leaf tag vr value rest) = leaf_kept depth (fates depth AsBytes tag) tag vr value (by_fate fates (value_by new) depth rest) (by_fate keeping value_itself depth rest) refl (kept depth rest)
    kept depth (sequence tag vr declared items rest) =
        sequence_kept depth (fates depth AsItems tag) tag vr (items_by_fate fates (value_by new) items) (items_by_fate keeping value_itself items) (by_fate fates (value_by new) depth rest) (by_fate keeping value_itself depth rest) refl (items_kept items) (kept depth rest)
    kept depth (fragments tag vr values rest) = fragments_kept depth (fates depth AsBytes tag) tag vr values (by_fate fates (value_by new) depth rest) (by_fate keeping value_itself depth rest) refl (kept depth rest)

    pub items_kept : (items : Items) → items_by_fate keeping value_itself (items_by_fate fates (value_by new) items) ≡ items_by_fate keeping value_itself items
    items_kept no_item = refl
    items_kept (item declared set rest) = item_kept (by_fate fates (value_by new) Inside set) (by_fate keeping value_itself Inside set) (items_by_fate fates (value_by new) rest) (items_by_fate keeping value_itself rest) (kept Inside set) (items_kept rest)

pub others_are_kept : (options : Options) (new : Renaming) (depth : Depth) (f : Trees) → kept_of options depth (deidentified_set options new depth f) ≡ kept_of options depth f
others_are_kept options new depth f = kept (fate_as options) new depth f
