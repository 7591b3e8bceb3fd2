-- What is in force of Specific Character Set (0008,0005) where an element stands (PS3.3 C.12.1.1.2).
use Rattle.std.specs.Prelude.{if◌then◌else◌}
use Rattle.dcm_base.specs.declared.tag.Tag.{Tag}
use Rattle.dcm_base.specs.Tables.Tag.{same_tag}
use Rattle.dcm_base.specs.Tree.Tree.{Trees, no_tree, leaf, sequence, fragments}
use Rattle.dcm_base.specs.Tree.Front.{Front, front}
use Rattle.dcm_text.specs.declared.sets.Sets.{Sets}
pub use Rattle.dcm_sinks.specs.InForce.{CHARACTER_SET, EMPTY, may_set, is_setting, set_by}

-- where the first element of a tag stands, or behind all of them: what an item sets ends with it
unfoldable pub trees_sets : (column : Tag) → Sets → Trees → Sets
trees_sets column sets no_tree = sets
trees_sets column sets (leaf tag vr value rest) =
    if same_tag tag column then sets else trees_sets column (set_by tag vr value sets) rest
trees_sets column sets (sequence tag vr declared items rest) =
    if same_tag tag column then sets else trees_sets column sets rest
trees_sets column sets (fragments tag vr values rest) =
    if same_tag tag column then sets else trees_sets column sets rest

-- in a data set as far as it was read: a value that is not whole sets nothing
abbrev pub front_sets : (column : Tag) → Sets → Front → Sets
front_sets column sets (front trees open_tree reached closed) = trees_sets column sets trees

-- in a meta group, which has leaves alone
unfoldable pub meta_sets : (column : Tag) → Sets → Trees → Sets
meta_sets column sets no_tree = sets
meta_sets column sets (leaf tag vr value rest) =
    if same_tag tag column then sets else meta_sets column (set_by tag vr value sets) rest
meta_sets column sets (sequence tag vr declared items rest) = meta_sets column sets rest
meta_sets column sets (fragments tag vr values rest) = meta_sets column sets rest
