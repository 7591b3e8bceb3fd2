-- Whether a data set says that its pixels may show identity (PS3.3 C.7.6.1).
use Rattle.std.specs.Prelude.{ℕ, List, Bool, false, ◌&&◌, ◌||◌, bytes_eq, codes}
use Rattle.dcm_base.specs.declared.tag.Tag.{Tag}
use Rattle.dcm_base.specs.Tables.Tag.{is_tag}
use Rattle.dcm_base.specs.Tables.Transfer.{without_pads}
use Rattle.dcm_base.specs.Tree.Tree.{Trees, no_tree, leaf, sequence, fragments, Items, no_item, item}

-- BurnedInAnnotation and RecognizableVisualFeatures
abbrev pub says_of_pixels : Tag → Bool
says_of_pixels tag = is_tag 0x0028 0x0301 tag || is_tag 0x0028 0x0302 tag

-- the padding aside
abbrev pub means_yes : List ℕ → Bool
means_yes value = bytes_eq (without_pads value) (codes "YES")

-- an element of these is YES, at any depth
abbrev mutual
  pub may_show : Trees → Bool
  may_show no_tree = false
  may_show (leaf tag vr value rest) = (says_of_pixels tag && means_yes value) || may_show rest
  may_show (sequence tag vr declared items rest) = may_show_in items || may_show rest
  may_show (fragments tag vr parts rest) = may_show rest

  pub may_show_in : Items → Bool
  may_show_in no_item = false
  may_show_in (item declared set rest) = may_show set || may_show_in rest
