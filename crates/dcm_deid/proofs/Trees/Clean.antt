-- What is left of a data set is clean.
use Rattle.std.proofs.Common.{◌≡◌, sym, refl, subst, ℕ, List}
use Rattle.dcm_base.specs.declared.tag.Tag.{Tag}
use Rattle.dcm_base.specs.declared.vr.Vr.{Vr}
use Rattle.dcm_base.specs.Tree.Tree.{Trees, no_tree, leaf, sequence, fragments, Items, no_item, item}
use Rattle.dcm_base.specs.Tables.Transfer.{without_pads}
use Rattle.dcm_deid.specs.declared.fate.Fate.{Fate}
use Rattle.dcm_deid.specs.declared.fate.Fate.TheVariants.{Remove, Empty, Replace, Anew, Keep}
use Rattle.dcm_deid.specs.declared.fate.Depth.{Depth}
use Rattle.dcm_deid.specs.declared.fate.Depth.TheVariants.{Inside}
use Rattle.dcm_deid.specs.declared.fate.ReadAs.TheVariants.{AsBytes, AsItems}
use Rattle.dcm_deid.specs.Deidentify.{Renaming, value_by, leaf_by, sequence_by, fragments_by, Fates, by_fate, items_by_fate}
use Rattle.dcm_deid.specs.Remains.{ValueIsClean, SequenceIsClean, IsKept, IsClean, ItemsAreClean}

module _ (fates : Fates) (new : Renaming) where
  leaf_clean : (depth : Depth) (fate : Fate) (tag : Tag) (vr : Vr) (value : List ℕ) (rest : Trees) → fates depth AsBytes tag ≡ fate
      → IsClean fates new depth rest → IsClean fates new depth (leaf_by fate tag vr (value_by new fate vr value) rest)
  leaf_clean depth Remove tag vr value rest e h = h
  leaf_clean depth Empty tag vr value rest e h = (subst (λ k. ValueIsClean new k vr (value_by new Empty vr value)) (sym e) refl, h)
  leaf_clean depth Replace tag vr value rest e h = (subst (λ k. ValueIsClean new k vr (value_by new Replace vr value)) (sym e) refl, h)
  leaf_clean depth (Anew made) tag vr value rest e h = (subst (λ k. ValueIsClean new k vr (value_by new (Anew made) vr value)) (sym e) (without_pads value, refl), h)
  leaf_clean depth Keep tag vr value rest e h = (subst (λ k. ValueIsClean new k vr (value_by new Keep vr value)) (sym e) tt, h)

  sequence_clean : (depth : Depth) (fate : Fate) (tag : Tag) (vr : Vr) (items : Items) (rest : Trees) → fates depth AsItems tag ≡ fate
      → ItemsAreClean (ValueIsClean new) fates items → IsClean fates new depth rest → IsClean fates new depth (sequence_by fate tag vr items rest)
  sequence_clean depth Remove tag vr items rest e i h = h
  sequence_clean depth Empty tag vr items rest e i h = (subst (λ k. SequenceIsClean k no_item (Unit {0})) (sym e) refl, h)
  sequence_clean depth Replace tag vr items rest e i h = (subst (λ k. SequenceIsClean k no_item (Unit {0})) (sym e) refl, h)
  sequence_clean depth (Anew made) tag vr items rest e i h = (subst (λ k. SequenceIsClean k no_item (Unit {0})) (sym e) refl, h)
  sequence_clean depth Keep tag vr items rest e i h = (subst (λ k. SequenceIsClean k items (ItemsAreClean (ValueIsClean new) fates items)) (sym e) i, h)

  fragments_clean : (depth : Depth) (fate : Fate) (tag : Tag) (vr : Vr) (values : List (List ℕ)) (rest : Trees) → fates depth AsBytes tag ≡ fate
      → IsClean fates new depth rest → IsClean fates new depth (fragments_by fate tag vr values rest)
  fragments_clean depth Remove tag vr values rest e h = h
  fragments_clean depth Empty tag vr values rest e h = h
  fragments_clean depth Replace tag vr values rest e h = h
  fragments_clean depth (Anew made) tag vr values rest e h = h
  fragments_clean depth Keep tag vr values rest e h = (subst IsKept (sym e) tt, h)

  mutual
    pub clean : (depth : Depth) (f : Trees) → IsClean fates new depth (by_fate fates (value_by new) depth f)
    clean depth no_tree = tt
    clean depth (leaf tag vr value rest) = leaf_clean depth (fates depth AsBytes tag) tag vr value (by_fate fates (value_by new) depth rest) refl (clean depth rest)
    clean depth (sequence tag vr declared items rest) =
        sequence_clean depth (fates depth AsItems tag) tag vr (items_by_fate fates (value_by new) items) (by_fate fates (value_by new) depth rest) refl (items_clean items) (clean depth rest)
    clean depth (fragments tag vr values rest) = fragments_clean depth (fates depth AsBytes tag) tag vr values (by_fate fates (value_by new) depth rest) refl (clean depth rest)

    pub items_clean : (items : Items) → ItemsAreClean (ValueIsClean new) fates (items_by_fate fates (value_by new) items)
    items_clean no_item = tt
    items_clean (item declared set rest) = (clean Inside set, items_clean rest)
