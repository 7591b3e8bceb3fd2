-- What is in force of Specific Character Set (0008,0005) where an element stands (PS3.3 C.12.1.1.2).
use Rattle.std.specs.Prelude.{ℕ, List, [], Bool, true, ◌&&◌, if◌then◌else◌}
use Rattle.dcm_base.specs.declared.tag.Tag.{Tag}
use Rattle.dcm_base.specs.declared.vr.Vr.{Vr}
use Rattle.dcm_base.specs.declared.vr.Vr.TheVariants.{UI, UN}
use Rattle.dcm_base.specs.Tables.Representation.{is_text}
use Rattle.dcm_base.specs.Tables.Tag.{same_tag}
use Rattle.dcm_base.specs.Tree.Tree.{Trees, no_tree, leaf, sequence, fragments}
use Rattle.dcm_text.specs.declared.sets.Sets.{Sets}
use Rattle.dcm_text.specs.Sets.{sets_of}

-- Specific Character Set
abbrev pub CHARACTER_SET : Tag
CHARACTER_SET = record { group = 8; element = 5 }

-- what the empty value names: the outermost data set begins with it, and all of a meta group is read by it
abbrev pub EMPTY : Sets
EMPTY = sets_of []

-- texts, unique identifiers and values that are unknown
abbrev pub may_set : Vr → Bool
may_set UI = true
may_set UN = true
may_set vr = is_text vr

abbrev pub is_character_set : Tag → Bool
is_character_set tag = same_tag tag CHARACTER_SET

-- whether a leaf sets what is in force behind it
abbrev pub is_setting : Tag → Vr → Bool
is_setting tag vr = is_character_set tag && may_set vr

-- what is in force behind a leaf, where this is in front of it
abbrev pub set_by : Tag → Vr → (value : List ℕ) → Sets → Sets
set_by tag vr value sets = if is_setting tag vr then sets_of value else sets

-- what is in force behind the elements of a data set: what an item sets ends with it
unfoldable pub sets_after : Sets → Trees → Sets
sets_after sets no_tree = sets
sets_after sets (leaf tag vr value rest) = sets_after (set_by tag vr value sets) rest
sets_after sets (sequence tag vr declared items rest) = sets_after sets rest
sets_after sets (fragments tag vr values rest) = sets_after sets rest
