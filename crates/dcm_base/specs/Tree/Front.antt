-- A data set as far as it was read.
use Rattle.std.specs.Prelude.{ℕ, List, Option, Bool}
use Rattle.dcm_base.specs.declared.tag.Tag.{Tag}
use Rattle.dcm_base.specs.declared.vr.Vr.{Vr}
use Rattle.dcm_base.specs.declared.length.Length.{Length}
use Rattle.dcm_base.specs.Tree.Tree.{Trees, Items}

-- whole trees, what stands open behind them, the tag of the last accepted head, and whether the set has ended
mutual
  pub data Front : Type 0 where
    front : (whole : Trees) (open_tree : OpenTree) (reached : Option Tag) (closed : Bool) → Front

  pub data OpenTree : Type 0 where
    nothing_open : OpenTree
    open_leaf : (tag : Tag) (vr : Vr) (size : ℕ) (value : List ℕ) → OpenTree
    open_sequence : (tag : Tag) (vr : Vr) (length : Length) (items : Items) (last : OpenItem) → OpenTree
    open_fragments : (tag : Tag) (vr : Vr) (values : List (List ℕ)) (last : Option (ℕ × List ℕ)) → OpenTree

  pub data OpenItem : Type 0 where
    no_open_item : OpenItem
    open_item : (length : Length) (set : Front) → OpenItem
