-- Whether a value of Specific Character Set (0008,0005) that was read names what is not known (PS3.3 C.12.1.1.2).
use Rattle.std.specs.Prelude.{ℕ, List, Bool, false, not, ◌&&◌, ◌||◌}
use Rattle.dcm_base.specs.declared.tag.Tag.{Tag}
use Rattle.dcm_base.specs.declared.vr.Vr.{Vr}
use Rattle.dcm_base.specs.Tree.Tree.{Trees, no_tree, leaf, sequence, fragments, Items, no_item, item}
use Rattle.dcm_base.specs.Tree.Front.{Front, front, OpenTree, nothing_open, open_leaf, open_sequence, open_fragments}
use Rattle.dcm_base.specs.Tree.Front.{OpenItem, no_open_item, open_item}
use Rattle.dcm_text.specs.Sets.{is_known}
use Rattle.dcm_sinks.specs.InForce.{is_setting}

-- whether a leaf sets what is in force, and names what is not known
abbrev pub sets_unknown : Tag → Vr → (value : List ℕ) → Bool
sets_unknown tag vr value = is_setting tag vr && not (is_known value)

-- whether one of a data set does, at any depth
unfoldable mutual
  pub unknown_in_trees : Trees → Bool
  unknown_in_trees no_tree = false
  unknown_in_trees (leaf tag vr value rest) = sets_unknown tag vr value || unknown_in_trees rest
  unknown_in_trees (sequence tag vr declared items rest) = unknown_in_items items || unknown_in_trees rest
  unknown_in_trees (fragments tag vr values rest) = unknown_in_trees rest

  pub unknown_in_items : Items → Bool
  unknown_in_items no_item = false
  unknown_in_items (item declared set rest) = unknown_in_trees set || unknown_in_items rest

-- and of one as far as it was read: a value that is not whole sets nothing
unfoldable mutual
  pub has_unknown : Front → Bool
  has_unknown (front whole open_tree reached closed) = unknown_in_trees whole || unknown_in_open open_tree

  pub unknown_in_open : OpenTree → Bool
  unknown_in_open nothing_open = false
  unknown_in_open (open_leaf tag vr size value) = false
  unknown_in_open (open_sequence tag vr declared items last) = unknown_in_items items || unknown_in_open_item last
  unknown_in_open (open_fragments tag vr values last) = false

  pub unknown_in_open_item : OpenItem → Bool
  unknown_in_open_item no_open_item = false
  unknown_in_open_item (open_item declared set) = has_unknown set
