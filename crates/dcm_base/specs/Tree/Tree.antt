-- A data set as the trees of its elements.
use Rattle.std.specs.Prelude.{ℕ, suc, List}
use Rattle.dcm_base.specs.declared.tag.Tag.{Tag}
use Rattle.dcm_base.specs.declared.vr.Vr.{Vr}
use Rattle.dcm_base.specs.declared.length.Length.{Length}

-- the elements of a data set in their order, and the items of a sequence in theirs
mutual
  pub data Trees : Type 0 where
    no_tree : Trees
    leaf : (tag : Tag) (vr : Vr) (value : List ℕ) (rest : Trees) → Trees
    sequence : (tag : Tag) (vr : Vr) (length : Length) (items : Items) (rest : Trees) → Trees
    fragments : (tag : Tag) (vr : Vr) (values : List (List ℕ)) (rest : Trees) → Trees

  pub data Items : Type 0 where
    no_item : Items
    item : (length : Length) (set : Trees) (rest : Items) → Items

-- trees, and more behind them
abbrev pub then_trees : Trees → Trees → Trees
then_trees no_tree more = more
then_trees (leaf tag vr value rest) more = leaf tag vr value (then_trees rest more)
then_trees (sequence tag vr declared items rest) more = sequence tag vr declared items (then_trees rest more)
then_trees (fragments tag vr values rest) more = fragments tag vr values (then_trees rest more)

abbrev pub then_items : Items → Items → Items
then_items no_item more = more
then_items (item declared set rest) more = item declared set (then_items rest more)

abbrev pub item_count : Items → ℕ
item_count no_item = 0
item_count (item declared set rest) = suc (item_count rest)
