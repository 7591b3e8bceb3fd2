-- Data sets whose tags ascend without repeats.
use Rattle.std.specs.Prelude.{◌≡◌, Option, Some, None, Bool, true, false}
use Rattle.dcm_base.specs.declared.tag.Tag.{Tag}
use Rattle.dcm_base.specs.Tree.Tree.{Trees, no_tree, leaf, sequence, fragments, Items, no_item, item}
use Rattle.dcm_base.specs.Tree.Front.{Front, front, OpenTree, nothing_open, open_leaf, open_sequence, open_fragments}
use Rattle.dcm_base.specs.Tree.Front.{OpenItem, no_open_item, open_item}
use Rattle.dcm_base.specs.Tables.Tag.{below, is_above}

-- the tags of each data set ascend without repeats, the first one above the last one before
abbrev mutual
  pub Ascend : Option Tag → Trees → Type 0
  Ascend last no_tree = Unit {0}
  Ascend last (leaf tag vr value rest) = (is_above tag last ≡ true) × Ascend (Some tag) rest
  Ascend last (sequence tag vr declared items rest) =
      (is_above tag last ≡ true) × ItemsAscend items × Ascend (Some tag) rest
  Ascend last (fragments tag vr values rest) = (is_above tag last ≡ true) × Ascend (Some tag) rest

  pub ItemsAscend : Items → Type 0
  ItemsAscend no_item = Unit {0}
  ItemsAscend (item declared set rest) = Ascend None set × ItemsAscend rest

abbrev pub AllBelow : Tag → Trees → Type 0
AllBelow t no_tree = Unit {0}
AllBelow t (leaf tag vr value rest) = (below tag t ≡ true) × AllBelow t rest
AllBelow t (sequence tag vr declared items rest) = (below tag t ≡ true) × AllBelow t rest
AllBelow t (fragments tag vr values rest) = (below tag t ≡ true) × AllBelow t rest

-- the open element was reached last
pub record ReachedLast (tag : Tag) (whole : Trees) (reached : Option Tag) (closed : Bool) : Type 0 where
  pub above : AllBelow tag whole
  pub last : reached ≡ Some tag
  pub unfinished : closed ≡ false

-- the same in a data set as far as it was read
abbrev mutual
  pub FrontAscends : Front → Type 0
  FrontAscends (front whole open_tree reached closed) = Ascend None whole × OpenAscends whole reached closed open_tree

  pub OpenAscends : Trees → Option Tag → Bool → OpenTree → Type 0
  OpenAscends whole reached closed nothing_open = Unit {0}
  OpenAscends whole reached closed (open_leaf tag vr size value) = ReachedLast tag whole reached closed
  OpenAscends whole reached closed (open_sequence tag vr declared items last) =
      ReachedLast tag whole reached closed × ItemsAscend items × OpenItemAscends last
  OpenAscends whole reached closed (open_fragments tag vr values last) = ReachedLast tag whole reached closed

  pub OpenItemAscends : OpenItem → Type 0
  OpenItemAscends no_open_item = Unit {0}
  OpenItemAscends (open_item declared set) = FrontAscends set
