-- The reached tag of a data set that was changed.
use Rattle.dcm_base.specs.Tree.Front.{Front, front, OpenTree, nothing_open, open_leaf, open_sequence, open_fragments}
use Rattle.dcm_base.specs.Tree.Front.{OpenItem, no_open_item, open_item}
use Rattle.dcm_base.specs.Bytes.Spelling.{reached_tag}

-- a data set whose reached tags are those of its last elements
abbrev mutual
  pub reached_anew : Front → Front
  reached_anew (front whole open_tree reached closed) =
      front whole (open_anew open_tree) (reached_tag whole open_tree) closed

  pub open_anew : OpenTree → OpenTree
  open_anew nothing_open = nothing_open
  open_anew (open_leaf tag vr size value) = open_leaf tag vr size value
  open_anew (open_sequence tag vr declared items last) = open_sequence tag vr declared items (item_anew last)
  open_anew (open_fragments tag vr values last) = open_fragments tag vr values last

  pub item_anew : OpenItem → OpenItem
  item_anew no_open_item = no_open_item
  item_anew (open_item declared set) = open_item declared (reached_anew set)
